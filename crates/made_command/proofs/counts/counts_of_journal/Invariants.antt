use Rattle.std.proofs.Common.{drop}
use Rattle.made_command.specs.Counting.{counts_of_journal}
use Rattle.made_command.proofs.Counting.{CountsSoFar}
use Rattle.made_command.proofs.counts.counts_of_journal.Given as goal

abbrev pub invariant-loop-entry : goal.invariant-loop-entry
invariant-loop-entry l = CountsSoFar l.counts (counts_of_journal (drop l.entry-index l.entries)) (counts_of_journal l.entries)
