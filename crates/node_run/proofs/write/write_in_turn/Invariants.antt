use Rattle.std.proofs.Common.{◌≡◌, ◌+◌, ◌≤◌, ◌++◌, take, drop}
use Rattle.std.specs.List.{sum_by}
use Rattle.reply_frames.specs.Replies.{entry_length}
use Rattle.node_run.specs.Frames.{WritesSoFar, journal_frames}
use Rattle.node_run.proofs.write.write_in_turn.Given as goal

abbrev pub invariant-loop-entry : goal.invariant-loop-entry
invariant-loop-entry g l =
    WritesSoFar (g.K.Sink.written l.initial.sink) (g.K.Sink.written l.sink) (journal_frames l.kernel l.first l.entries) (l.gathered ++ journal_frames l.kernel l.running (drop l.entry-index l.entries))
    × (g.K.Sink.faults l.initial.sink ≤ g.K.Sink.faults l.sink)
    × (l.running ≡ l.first + sum_by entry_length (take l.entry-index l.entries))
