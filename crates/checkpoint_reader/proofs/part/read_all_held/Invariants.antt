use Rattle.std.proofs.Common.{◌≡◌, ◌-◌, []}
use Rattle.checkpoint_reader.specs.PartReads.{more}
use Rattle.checkpoint_reader.specs.PartReading as spec
use Rattle.checkpoint_reader.proofs.part.read_all_held.Given as goal

abbrev pub invariant-loop-index : goal.invariant-loop-index
invariant-loop-index l = more (λ before. spec.held l.texts l.bytes l.alone) (l.count - l.index) l.all l.spot ≡ more (λ before. spec.held l.texts l.bytes l.alone) l.count [] l.fn.spot
