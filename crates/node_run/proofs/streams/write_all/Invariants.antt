use Rattle.std.proofs.Common.{◌≤◌, length}
use Rattle.node_run.proofs.Streaming.{WritesSoFar}
use Rattle.node_run.proofs.streams.write_all.Given as goal

abbrev pub invariant-loop-rest : goal.invariant-loop-rest
invariant-loop-rest g l =
    WritesSoFar (g.K.Sink.written l.initial.sink) (g.K.Sink.written l.sink) l.bytes l.rest × (g.K.Sink.faults l.initial.sink ≤ g.K.Sink.faults l.sink)

abbrev pub decreases-loop-rest : goal.decreases-loop-rest
decreases-loop-rest g l = length l.rest
