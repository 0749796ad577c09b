use Rattle.part_bytes.specs.Lengths.{held_at}
use Rattle.part_bytes.proofs.Lengths.{sum_more, sum_past, sum_done}
use Rattle.part_bytes.proofs.length.add_all_held.Goals as goal

pub loop-name-preserved : goal.loop-name-preserved
loop-name-preserved c = sum_more (held_at c.args.state.now) c.args.total c.loop-name.total c.args.names.now c.loop-name.name-index c.name-item.result c.name-item.result c.loop-name-test.true c.name-item.is c.loop-name.invariant _ c.held_len.ensures c.in_ok-total.total c.in_ok-total.ensures

pub returns-in_err-total : goal.returns-in_err-total
returns-in_err-total c = rw c.from_residual.ensures (sum_past (held_at c.args.state.now) c.args.total c.loop-name.total c.args.names.now c.loop-name.name-index c.name-item.result c.name-item.result c.loop-name-test.true c.name-item.is c.loop-name.invariant _ c.held_len.ensures c.in_err-total.ensures)

pub returns : goal.returns
returns c = sum_done (held_at c.args.state.now) c.args.total c.loop-name.total c.args.names.now c.loop-name.name-index c.loop-name-test.false c.loop-name.invariant
