-- The counts of a stream depend on the number of its cells alone.
use Rattle.std.proofs.Common.{◌≡◌, ℕ, ◌≤◌, List, [], ◌∷◌, Some, refl, sym, ap, ap₂, ◌∙◌, subst}
use Rattle.session_core.specs.declared.entry.Entry.{Entry}
use Rattle.node_intake.specs.Intake.{Node}
use Rattle.node_run.specs.Journals.{IsJournalOf, AreJournals}
use Rattle.notebook_meaning.specs.Notebooks.{notebooks}
use Rattle.unmoved_sessions.specs.Alike.{HadMemoryThroughout, AreAlike}
use Rattle.unmoved_sessions.proofs.OneList.{alike_same}
use Rattle.unmoved_sessions.proofs.OneJournal.{one_journal}
use Rattle.unmoved_sessions.proofs.Streaming.{journal_alone}
use Rattle.made_command.specs.declared.counts.Counts.{Counts}
use Rattle.made_command.specs.Asked.{session}
use Rattle.made_command.specs.Counting.{nothing, both, capped, counts_of_entry, counts_of_journal, counts_of, line, no_draws, IsCount, HadMemoryInAll}
use Rattle.made_command.proofs.Asked.{node_alone, all_shell}

-- entries that are alike count alike
counted_alike : (es fs : List Entry) → AreAlike es fs → counts_of_journal es ≡ counts_of_journal fs
counted_alike [] [] are = refl
counted_alike [] (f ∷ fs) are = absurd are
counted_alike (e ∷ es) [] are = absurd are
counted_alike (e ∷ es) (f ∷ fs) are =
    ap₂ both (alike_same counts_of_entry (λ from to r by other objects. refl) e f are.0) (counted_alike es fs are.1)

-- the journal of the one session
record HasOne (n : ℕ) (journals : List (List Entry)) : Type 0 where
  pub journal : List Entry
  pub alone : journals ≡ journal ∷ []
  pub is : IsJournalOf notebooks 3 (Some []) (session n) journal
  pub had : HadMemoryThroughout journal

has_one : (n : ℕ) (text : List ℕ) (count : IsCount n text) → n ≤ 4000 → HadMemoryInAll count.journals → HasOne n count.journals
has_one n text count small had =
    let node = node_alone n count.node small count.is_node in
    let (journal, alone, is) = journal_alone notebooks 3 no_draws (session n) count.journals (subst (λ (k : Node). AreJournals notebooks 3 no_draws k.sessions count.journals) node count.are_journals) in
    record {
      journal = journal;
      alone = alone;
      is = is;
      had = (subst HadMemoryInAll alone had).0;
    }

pub one_count : (n : ℕ) (a b : List ℕ) (i : IsCount n a) (j : IsCount n b) → n ≤ 4000 → HadMemoryInAll i.journals → HadMemoryInAll j.journals → a ≡ b
one_count n a b i j small had had_too =
    let one = has_one n a i small had in
    let two = has_one n b j small had_too in
    let alike = one_journal 3 [] (session n) (all_shell n) one.journal two.journal one.is two.is one.had two.had in
    let counts : counts_of i.journals ≡ counts_of j.journals =
    ap counts_of one.alone ∙ (ap (λ (c : Counts). both c nothing) (counted_alike one.journal two.journal alike) ∙ sym (ap counts_of two.alone)) in
    i.text_is ∙ (ap (λ (c : Counts). line (capped c)) counts ∙ sym j.text_is)
