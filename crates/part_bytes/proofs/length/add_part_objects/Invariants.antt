use Rattle.std.proofs.Common.{take}
use Rattle.part_bytes.specs.Texts as spec
use Rattle.part_bytes.proofs.Lengths.{Reaches}
use Rattle.part_bytes.proofs.length.add_part_objects.Given as goal

abbrev pub invariant-loop-object : goal.invariant-loop-object
invariant-loop-object l = Reaches spec.object_bytes l.fn.total l.total (take l.object-index l.objects)
