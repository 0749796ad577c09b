use Rattle.std.proofs.Common.{◌≡◌, ◌-◌, []}
use Rattle.checkpoint_reader.specs.Reads.{turns, one_more}
use Rattle.checkpoint_reader.specs.Fields as spec
use Rattle.checkpoint_reader.proofs.texts.read_all_numbers.Given as goal

abbrev pub invariant-loop-index : goal.invariant-loop-index
invariant-loop-index l = turns (one_more (spec.four l.bytes)) (l.count - l.index) l.all l.spot ≡ turns (one_more (spec.four l.bytes)) l.count [] l.fn.spot
