use Rattle.std.proofs.Common.{ℕ, get_or, refl}
use Rattle.part_bytes.specs.Lengths.{object_at}
use Rattle.part_bytes.proofs.Lengths.{sum_more, sum_past, sum_done, length-object_at}
use Rattle.part_bytes.proofs.length.add_objects.Goals as goal

pub loop-at-preserved : goal.loop-at-preserved
loop-at-preserved c =
    let at : ℕ = get_or c.args.found.now c.loop-at.at-index 0 in
    sum_more (object_at c.args.state.now) c.args.total c.loop-at.total c.args.found.now c.loop-at.at-index at 0 c.loop-at-test.true refl c.loop-at.invariant _ (length-object_at c.args.state.now at c.get.result.now c.get.ensures) c.in_ok-total.total c.in_ok-total.ensures

pub returns-in_err-total : goal.returns-in_err-total
returns-in_err-total c =
    let at : ℕ = get_or c.args.found.now c.loop-at.at-index 0 in
    rw c.from_residual.ensures (sum_past (object_at c.args.state.now) c.args.total c.loop-at.total c.args.found.now c.loop-at.at-index at 0 c.loop-at-test.true refl c.loop-at.invariant _ (length-object_at c.args.state.now at c.get.result.now c.get.ensures) c.in_err-total.ensures)

pub returns : goal.returns
returns c = sum_done (object_at c.args.state.now) c.args.total c.loop-at.total c.args.found.now c.loop-at.at-index c.loop-at-test.false c.loop-at.invariant
