use Rattle.std.proofs.Common.{rules, ◌≡◌, ◌∙◌, ap, sym, List, [], ◌∷◌, ◌++◌}
use Rattle.py_value.specs.declared.value.Value.{Value}
use Rattle.py_value.specs.declared.value.Value.TheVariants as value
use Rattle.py_items.proofs.OneMore.{no_more, one_character}
use Rattle.py_items.proofs.unpacked.characters_of.Goals as goal

pub loop-character-preserved : goal.loop-character-preserved
loop-character-preserved c = one_character c.loop-character.characters c.push.new.self c.args.text.now c.loop-character.character-iterator.rest.now c.next.new.self.rest.now c.in-Some.character c.loop-character.invariant.1 c.in-Some.ensures.steps.0 (c.in_ok-push.ensures.ok ∙ ap (λ t. c.loop-character.characters ++ value.Text t ∷ []) c.in_ok-text_of.ensures) c.loop-character.invariant.0

pub returns : goal.returns
returns c = no_more c.loop-character.characters c.args.text.now c.loop-character.character-iterator.rest.now c.in-None.ensures.steps.0.0 c.loop-character.invariant.0
