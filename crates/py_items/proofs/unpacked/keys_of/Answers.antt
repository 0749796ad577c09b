use Rattle.std.proofs.Common.{rules, ◌≡◌, ◌∙◌, ap, sym, List, [], ◌∷◌, ◌++◌}
use Rattle.py_value.specs.declared.value.Value.{Value}
use Rattle.py_items.proofs.OneMore.{one_key}
use Rattle.py_items.proofs.unpacked.keys_of.Goals as goal

pub loop-index-preserved : goal.loop-index-preserved
loop-index-preserved c = one_key c.loop-index.keys c.push.new.self c.args.pairs.now c.loop-index.index (c.pair_at.result.0.now, c.pair_at.result.1.now) c.pair_at.ensures c.loop-index.invariant (c.in_ok-push.ensures.ok ∙ ap (λ (held : Value). c.loop-index.keys ++ held ∷ []) c.in_ok-value.ensures.value)
