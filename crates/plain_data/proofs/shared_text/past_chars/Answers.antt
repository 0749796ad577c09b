use Rattle.std.proofs.Common.{sym, ◌∙◌}
use Rattle.std.proofs.lemmas.Str.{encodes-chars}
use Rattle.std.specs.Str.{chars}
use Rattle.plain_data.proofs.Characters.{past_one}
use Rattle.plain_data.proofs.shared_text.past_chars.Goals as goal

pub loop-init : goal.loop-init
loop-init c = c.chars-rest.ensures.rest ∙ sym (encodes-chars c.args.text.now c.utf8.text)

pub loop-preserved : goal.loop-preserved
loop-preserved c = past_one (chars c.args.text.now) c.loop.counter c.loop.rest c.next.new.self c.next.result c.loop.invariant c.next.ensures.steps.0
