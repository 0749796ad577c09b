use Rattle.std.proofs.Common.{take}
use Rattle.part_bytes.specs.Lengths.{object_at}
use Rattle.part_bytes.proofs.Lengths.{Reaches}
use Rattle.part_bytes.proofs.length.add_objects.Given as goal

abbrev pub invariant-loop-at : goal.invariant-loop-at
invariant-loop-at l = Reaches (object_at l.state) l.fn.total l.total (take l.at-index l.found)
