use Rattle.part_bytes.specs.Uses as spec
use Rattle.part_bytes.proofs.Tables.{uses_more, uses_all}
use Rattle.part_bytes.proofs.texts.add_values.Goals as goal

pub loop-value-preserved : goal.loop-value-preserved
loop-value-preserved c = uses_more spec.value_texts c.args.texts.now _ _ c.args.values.now c.loop-value.value-index c.value-item.result
    c.loop-value-test.true c.value-item.is c.loop-value.invariant c.in_ok-add_value.ensures

pub returns : goal.returns
returns c = uses_all spec.value_texts c.args.texts.now _ c.args.values.now c.loop-value.value-index c.loop-value-test.false c.loop-value.invariant
