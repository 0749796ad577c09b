use Rattle.std.proofs.Common.{List, ◌+◌, drop, ap, subst, ◌∙◌}
use Rattle.session_core.specs.declared.entry.Entry.{Entry}
use Rattle.made_command.specs.declared.counts.Counts.{Counts}
use Rattle.made_command.specs.Counting.{both, capped, counts_of_entry, counts_of_journal}
use Rattle.made_command.proofs.Counting.{CountsSoFar, all_counted, next_dropped, none_dropped, one_counted}
use Rattle.made_command.proofs.counts.counts_of_journal.Goals as goal

pub loop-entry-preserved : goal.loop-entry-preserved
loop-entry-preserved c =
    let es = c.args.entries.now in
    let i = c.loop-entry.entry-index in
    let e = c.entry-item.result in
    one_counted c.loop-entry.counts (counts_of_entry e) (counts_of_journal (drop (i + 1) es)) (counts_of_journal es) c.and-counts.result
    (subst (λ (l : List Entry). CountsSoFar c.loop-entry.counts (counts_of_journal l) (counts_of_journal es)) (next_dropped es i e c.loop-entry-test.true c.entry-item.is) c.loop-entry.invariant)
    (c.and-counts.ensures ∙ ap (λ (o : Counts). capped (both c.loop-entry.counts o)) c.counts_of_entry.ensures)

pub returns : goal.returns
returns c =
    let es = c.args.entries.now in
    all_counted c.loop-entry.counts (counts_of_journal es)
    (subst (λ (l : List Entry). CountsSoFar c.loop-entry.counts (counts_of_journal l) (counts_of_journal es)) (none_dropped es c.loop-entry.entry-index c.loop-entry-test.false) c.loop-entry.invariant)
