-- Sessions that are closed.
use Rattle.std.specs.Prelude.{◌≡◌, ℕ, Bool, true, false, List, [], ◌∷◌, ◌++◌, map}
use Rattle.session_core.specs.declared.entry.Entry.{Entry}
use Rattle.session_core.specs.Meanings.{Meaning}
use Rattle.node_intake.specs.Intake.{Taken}
use Rattle.node_run.specs.declared.open_session.OpenSession.{OpenSession}
use Rattle.node_run.specs.Journals.{Answers, ServedSession, journal_of, journals_of, IsRunOf, AreRuns}
use Rattle.node_run.specs.Unsent.{read_of}
use Rattle.node_serve.specs.Units.{entry_units, session_units, read_units}
use Rattle.node_serve.specs.Sent.{Wire, SendsWhile, SendsOn}
use Rattle.node_serve.specs.Links.{IsJournalSoFar, AreJournalsSoFar}

-- the session has a journal as far as it came, which begins with what was read
pub record IsTakenBack (meaning : Meaning) (hosts : ℕ) (gives : Answers) (s : Taken) (o : OpenSession) : Type 0 where
  pub entries : List Entry
  pub journal : IsJournalSoFar meaning hosts (gives s.kernel) s entries
  pub read : (rest : List Entry) × (entries ≡ read_of o ++ rest)

-- memory ran out: perhaps the first bytes of what wasn't told of the journal were sent
pub record IsCutShort (meaning : Meaning) (hosts : ℕ) (gives : Answers) (old new : Wire) (s : Taken) (o : OpenSession) : Type 0 where
  pub entries : List Entry
  pub journal : IsJournalSoFar meaning hosts (gives s.kernel) s entries
  pub told : SendsOn true false old new (read_units o) (entry_units s.kernel 1 entries)

-- One session more is closed, whose journal this is. While memory suffices it is one of those that were served, and all of it was told.
pub record Closes (meaning : Meaning) (hosts : ℕ) (gives : Answers) (old new : Wire) (s : Taken) (o : OpenSession) (before then : Bool) (runs later : List ServedSession) : Type 0 where
  pub entries : List Entry
  pub journal : IsJournalSoFar meaning hosts (gives s.kernel) s entries
  pub told : SendsOn before then old new (read_units o) (entry_units s.kernel 1 entries)
  pub served : then ≡ true → (before ≡ true) × ((run : ServedSession) × (later ≡ runs ++ run ∷ []) × IsRunOf meaning hosts gives s run × (journal_of run ≡ entries))

-- These sessions are closed, with these journals. While memory suffices all were served, and all was told.
pub record AreClosed (meaning : Meaning) (hosts : ℕ) (gives : Answers) (old new : Wire) (ts : List Taken) (os : List OpenSession) (before then : Bool) (runs : List ServedSession) : Type 0 where
  pub journals : List (List Entry)
  pub are_journals : AreJournalsSoFar meaning hosts gives ts journals
  pub told : (start : Wire) (taken : List ℕ) (errors : List (List ℕ)) → SendsWhile before start old taken (errors ∷ map read_units os) → SendsWhile then start new taken (errors ∷ session_units ts journals)
  pub served : then ≡ true → (before ≡ true) × AreRuns meaning hosts gives ts runs × (journals ≡ journals_of runs)
