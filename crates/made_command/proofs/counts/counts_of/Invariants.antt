use Rattle.std.proofs.Common.{drop}
use Rattle.node_run.specs.Journals.{journals_of}
use Rattle.made_command.specs.Counting.{counts_of}
use Rattle.made_command.proofs.Counting.{CountsSoFar}
use Rattle.made_command.proofs.counts.counts_of.Given as goal

abbrev pub invariant-loop-run : goal.invariant-loop-run
invariant-loop-run l = CountsSoFar l.counts (counts_of (journals_of (drop l.run-index l.runs))) (counts_of (journals_of l.runs))
