use Rattle.std.proofs.Common.{◌≤◌, drop}
use Rattle.node_run.specs.Frames.{WritesSoFar, parts_together}
use Rattle.node_run.proofs.write.send_parts.Given as goal

abbrev pub invariant-loop-part : goal.invariant-loop-part
invariant-loop-part g l =
    WritesSoFar (g.K.Sink.written l.initial.sink) (g.K.Sink.written l.sink) (parts_together l.parts) (parts_together (drop l.part-index l.parts))
    × (g.K.Sink.faults l.initial.sink ≤ g.K.Sink.faults l.sink)
