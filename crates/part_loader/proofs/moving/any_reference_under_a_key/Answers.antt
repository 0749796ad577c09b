use Rattle.std.proofs.Common.{sym, ◌∙◌, arith}
use Rattle.part_loader.specs.References.{is_reference}
use Rattle.part_loader.proofs.Whole.{found, none_more, none_at_all}
use Rattle.part_loader.proofs.moving.any_reference_under_a_key.Goals as goal

pub returns-then-is_reference : goal.returns-then-is_reference
returns-then-is_reference c = sym (found (λ pair. is_reference pair.1) c.args.dict.now c.loop-index.index _ c.pair_at.ensures (sym c.is_reference.ensures ∙ c.if-is_reference.true))

pub loop-index-preserved : goal.loop-index-preserved
loop-index-preserved c = none_more (λ pair. is_reference pair.1) c.args.dict.now c.loop-index.index _ c.pair_at.ensures c.loop-index.invariant (sym c.is_reference.ensures ∙ c.if-is_reference.false)

pub returns : goal.returns
returns c = sym (none_at_all (λ pair. is_reference pair.1) c.args.dict.now c.loop-index.index (omega arith) c.loop-index.invariant)
