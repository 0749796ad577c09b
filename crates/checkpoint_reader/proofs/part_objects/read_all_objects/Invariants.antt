use Rattle.std.proofs.Common.{◌≡◌, ◌-◌, []}
use Rattle.checkpoint_reader.specs.PartReads.{more}
use Rattle.checkpoint_reader.specs.PartReading as spec
use Rattle.checkpoint_reader.proofs.part_objects.read_all_objects.Given as goal

abbrev pub invariant-loop-index : goal.invariant-loop-index
invariant-loop-index l = more (spec.object l.texts l.bytes) (l.count - l.index) l.all l.spot ≡ more (spec.object l.texts l.bytes) l.count [] l.fn.spot
