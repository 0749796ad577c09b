use Rattle.std.proofs.Common.{◌≤◌, length}
use Rattle.node_run.proofs.Batching.{Batched}
use Rattle.node_run.proofs.write.write_batches.Given as goal

abbrev pub invariant-loop-rest : goal.invariant-loop-rest
invariant-loop-rest g l =
    Batched (g.K.Sink.written l.initial.sink) (g.K.Sink.written l.sink) l.kernel l.running l.entries l.rest l.parts.items × (g.K.Sink.faults l.initial.sink ≤ g.K.Sink.faults l.sink)

abbrev pub decreases-loop-rest : goal.decreases-loop-rest
decreases-loop-rest g l = length l.rest
