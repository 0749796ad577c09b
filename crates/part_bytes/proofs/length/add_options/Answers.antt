use Rattle.part_bytes.specs.Texts as spec
use Rattle.part_bytes.proofs.Lengths.{sum_more, sum_past, sum_done}
use Rattle.part_bytes.proofs.length.add_options.Goals as goal

pub loop-held-preserved : goal.loop-held-preserved
loop-held-preserved c = sum_more spec.held_bytes c.args.total c.loop-held.total c.args.values.now c.loop-held.held-index c.held-item.result c.held-item.result c.loop-held-test.true c.held-item.is c.loop-held.invariant _ c.option_len.ensures c.in_ok-total.total c.in_ok-total.ensures

pub returns-in_err-total : goal.returns-in_err-total
returns-in_err-total c = rw c.from_residual.ensures (sum_past spec.held_bytes c.args.total c.loop-held.total c.args.values.now c.loop-held.held-index c.held-item.result c.held-item.result c.loop-held-test.true c.held-item.is c.loop-held.invariant _ c.option_len.ensures c.in_err-total.ensures)

pub returns : goal.returns
returns c = sum_done spec.held_bytes c.args.total c.loop-held.total c.args.values.now c.loop-held.held-index c.loop-held-test.false c.loop-held.invariant
