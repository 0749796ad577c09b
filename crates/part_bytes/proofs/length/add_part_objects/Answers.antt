use Rattle.std.proofs.Common.{refl}
use Rattle.part_bytes.specs.Texts as spec
use Rattle.part_bytes.proofs.Lengths.{sum_more, sum_past, sum_done}
use Rattle.part_bytes.proofs.length.add_part_objects.Goals as goal

pub loop-object-preserved : goal.loop-object-preserved
loop-object-preserved c = sum_more spec.object_bytes c.args.total c.loop-object.total c.args.objects.now c.loop-object.object-index c.object-item.result c.object-item.result c.loop-object-test.true c.object-item.is c.loop-object.invariant _ refl c.in_ok-total.total c.in_ok-total.ensures

pub returns-in_err-total : goal.returns-in_err-total
returns-in_err-total c = rw c.from_residual.ensures (sum_past spec.object_bytes c.args.total c.loop-object.total c.args.objects.now c.loop-object.object-index c.object-item.result c.object-item.result c.loop-object-test.true c.object-item.is c.loop-object.invariant _ refl c.in_err-total.ensures)

pub returns : goal.returns
returns c = sum_done spec.object_bytes c.args.total c.loop-object.total c.args.objects.now c.loop-object.object-index c.loop-object-test.false c.loop-object.invariant
