use Rattle.std.proofs.Common.{List, ◌+◌, drop, ap, subst, ◌∙◌}
use Rattle.session_core.specs.declared.entry.Entry.{Entry}
use Rattle.node_run.specs.Journals.{ServedSession, journal_of, journals_of}
use Rattle.made_command.specs.declared.counts.Counts.{Counts}
use Rattle.made_command.specs.Counting.{both, capped, counts_of_journal, counts_of}
use Rattle.made_command.proofs.Counting.{CountsSoFar, all_counted, capped_counted, next_dropped, none_dropped}
use Rattle.made_command.proofs.counts.counts_of.Goals as goal

pub loop-run-preserved : goal.loop-run-preserved
loop-run-preserved c =
    let runs = c.args.runs.now in
    let i = c.loop-run.run-index in
    let run = c.run-item.result in
    capped_counted c.loop-run.counts (counts_of_journal (journal_of run)) (counts_of (journals_of (drop (i + 1) runs))) (counts_of (journals_of runs)) c.and-counts.result
    (subst (λ (l : List ServedSession). CountsSoFar c.loop-run.counts (counts_of (journals_of l)) (counts_of (journals_of runs))) (next_dropped runs i run c.loop-run-test.true c.run-item.is) c.loop-run.invariant)
    (c.and-counts.ensures ∙ ap (λ (o : Counts). capped (both c.loop-run.counts o)) (c.counts_of_journal.ensures ∙ ap (λ (es : List Entry). capped (counts_of_journal es)) c.entries.ensures))

pub returns : goal.returns
returns c =
    let runs = c.args.runs.now in
    all_counted c.loop-run.counts (counts_of (journals_of runs))
    (subst (λ (l : List ServedSession). CountsSoFar c.loop-run.counts (counts_of (journals_of l)) (counts_of (journals_of runs))) (none_dropped runs c.loop-run.run-index c.loop-run-test.false) c.loop-run.invariant)
