use Rattle.part_bytes.specs.Texts as spec
use Rattle.part_bytes.proofs.Lengths.{sum_more, sum_past, sum_done}
use Rattle.part_bytes.proofs.length.add_items.Goals as goal

pub loop-value-preserved : goal.loop-value-preserved
loop-value-preserved c = sum_more spec.value_bytes c.args.total c.loop-value.total c.args.items.now c.loop-value.value-index c.value-item.result c.value-item.result c.loop-value-test.true c.value-item.is c.loop-value.invariant _ c.value_len.ensures c.in_ok-total.total c.in_ok-total.ensures

pub returns-in_err-total : goal.returns-in_err-total
returns-in_err-total c = rw c.from_residual.ensures (sum_past spec.value_bytes c.args.total c.loop-value.total c.args.items.now c.loop-value.value-index c.value-item.result c.value-item.result c.loop-value-test.true c.value-item.is c.loop-value.invariant _ c.value_len.ensures c.in_err-total.ensures)

pub returns : goal.returns
returns c = sum_done spec.value_bytes c.args.total c.loop-value.total c.args.items.now c.loop-value.value-index c.loop-value-test.false c.loop-value.invariant
