use Rattle.std.proofs.Common.{◌≡◌, ◌-◌, []}
use Rattle.checkpoint_reader.specs.PartReads.{more}
use Rattle.checkpoint_reader.specs.PartReading as spec
use Rattle.checkpoint_reader.proofs.part_objects.read_pairs.Given as goal

abbrev pub invariant-loop-index : goal.invariant-loop-index
invariant-loop-index l = more (spec.pair l.texts l.bytes) (l.count - l.index) l.dict l.spot ≡ more (spec.pair l.texts l.bytes) l.count [] l.fn.spot
