use Rattle.std.proofs.Common.{◌≤◌, drop}
use Rattle.node_run.specs.Frames.{run_frames}
use Rattle.node_run.proofs.Streaming.{WritesSoFar}
use Rattle.node_run.proofs.write.write_runs.Given as goal

abbrev pub invariant-loop-run : goal.invariant-loop-run
invariant-loop-run g l =
    WritesSoFar (g.K.Sink.written l.initial.sink) (g.K.Sink.written l.sink) (run_frames l.runs) (run_frames (drop l.run-index l.runs))
    × (g.K.Sink.faults l.initial.sink ≤ g.K.Sink.faults l.sink)
