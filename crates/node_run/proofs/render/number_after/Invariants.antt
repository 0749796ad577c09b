use Rattle.std.proofs.Common.{◌≡◌, ◌+◌, take}
use Rattle.std.specs.List.{sum_by}
use Rattle.reply_frames.specs.Replies.{entry_length}
use Rattle.node_run.proofs.render.number_after.Given as goal

abbrev pub invariant-loop-entry : goal.invariant-loop-entry
invariant-loop-entry l = l.next ≡ l.first + sum_by entry_length (take l.entry-index l.entries)
