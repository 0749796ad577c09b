use Rattle.std.proofs.Common.{◌≤◌, length}
use Rattle.checkpoint_bytes.specs.Written.{WritesSoFar}
use Rattle.checkpoint_bytes.proofs.pieces.send.Given as goal

abbrev pub invariant-loop-rest : goal.invariant-loop-rest
invariant-loop-rest g l =
    WritesSoFar (g.K.Sink.written l.initial.sink) (g.K.Sink.written l.sink) l.bytes l.rest × (g.K.Sink.faults l.initial.sink ≤ g.K.Sink.faults l.sink)

abbrev pub decreases-loop-rest : goal.decreases-loop-rest
decreases-loop-rest g l = length l.rest
