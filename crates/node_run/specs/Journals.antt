-- The journals of sessions.
use Rattle.std.specs.Prelude.{◌≡◌, ℕ, List, ◌∷◌, map, Option}
use Rattle.std.specs.List.{AllZip}
use Rattle.nb_outside.specs.declared.feed.Drawn.{Drawn}
use Rattle.session_core.specs.declared.entry.Entry.{Entry}
use Rattle.session_core.specs.declared.entry.Entry.TheVariants.{Opened}
use Rattle.session_core.specs.Meanings.{Meaning}
use Rattle.session_core.specs.Legal.{settled, progress_of, IsLegal, main_asked, control_asked}
use Rattle.session_core.specs.Aloneness.{Seen}
use Rattle.session_core.specs.Feeding.{drawn_in, AreFirstAnswers}
use Rattle.node_intake.specs.Intake.{Taken, main_requests, control_requests}

-- the answers that the feed of each kernel's session is made with, if they are told
abbrev pub Answers : Type 0
Answers = ℕ → Option (List Drawn)

-- a legal journal of a session that was opened so, in which all that was asked of it is answered, each list in order, and each move
-- that was begun has ended; and what its cells drew, that of which it died full included, is what its feed gave first
pub record IsJournalOf (meaning : Meaning) (hosts : ℕ) (answers : Option (List Drawn)) (s : Taken) (es : List Entry) : Type 0 where
  pub legal : IsLegal meaning hosts es
  pub begins : (more : List Entry) × (es ≡ Opened s.host s.request s.channel ∷ more)
  pub main : main_asked es ≡ main_requests s
  pub control : control_asked es ≡ control_requests s
  pub settled : (progress_of es).phase ≡ settled
  pub fed : AreFirstAnswers answers (drawn_in es)

-- a session that was served, by its kernel
abbrev pub ServedSession : Type 0
ServedSession = ℕ × Seen

abbrev pub journal_of : ServedSession → List Entry
journal_of run = run.1.entries

abbrev pub journals_of : List ServedSession → List (List Entry)
journals_of runs = map journal_of runs

abbrev pub IsRunOf : Meaning → ℕ → Answers → Taken → ServedSession → Type 0
IsRunOf meaning hosts gives s run = (run.0 ≡ s.kernel) × IsJournalOf meaning hosts (gives s.kernel) s (journal_of run)

-- each session was served, in order
abbrev pub AreRuns : Meaning → ℕ → Answers → List Taken → List ServedSession → Type 0
AreRuns meaning hosts gives sessions runs = AllZip (IsRunOf meaning hosts gives) sessions runs

abbrev pub AreJournals : Meaning → ℕ → Answers → List Taken → List (List Entry) → Type 0
AreJournals meaning hosts gives sessions journals = AllZip (λ (s : Taken) (es : List Entry). IsJournalOf meaning hosts (gives s.kernel) s es) sessions journals
