use Rattle.std.proofs.Common.{◌+◌, ◌≤◌, drop}
use Rattle.node_run.specs.Frames.{error_frames}
use Rattle.node_run.proofs.Streaming.{WritesSoFar}
use Rattle.node_run.proofs.write.write_errors.Given as goal

abbrev pub invariant-loop-at : goal.invariant-loop-at
invariant-loop-at g l =
    WritesSoFar (g.K.Sink.written l.initial.sink) (g.K.Sink.written l.sink) (error_frames 1 l.errors) (error_frames (l.at + 1) (drop l.at l.errors))
    × (g.K.Sink.faults l.initial.sink ≤ g.K.Sink.faults l.sink)
