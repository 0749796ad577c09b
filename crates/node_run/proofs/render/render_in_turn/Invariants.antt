use Rattle.std.proofs.Common.{◌≡◌, ◌++◌, drop}
use Rattle.node_run.specs.Frames.{journal_frames}
use Rattle.node_run.proofs.render.render_in_turn.Given as goal

abbrev pub invariant-loop-entry : goal.invariant-loop-entry
invariant-loop-entry l = journal_frames l.kernel l.first l.entries ≡ l.bytes ++ journal_frames l.kernel l.running (drop l.entry-index l.entries)
