-- The frames of a node: of its errors, and then of each session's journal.
use Rattle.std.specs.Prelude.{◌≡◌, ℕ, ◌+◌, ◌⊎◌, length, List, [], ◌∷◌, ◌++◌, Option}
use Rattle.std.specs.List.{flat_map, sum_by}
use Rattle.nb_outside.specs.Streams.{Adds}
use Rattle.session_core.specs.declared.entry.Entry.{Entry}
use Rattle.reply_frames.specs.declared.node.NodeError.{NodeError}
use Rattle.reply_frames.specs.Nodes.{frame_of}
use Rattle.reply_frames.specs.Replies.{entry_frames, entry_length}
use Rattle.node_intake.specs.Intake.{Taken, Node}
use Rattle.node_run.specs.declared.render.Made.{Made}
use Rattle.node_run.specs.Journals.{ServedSession, journal_of}

-- of errors, with running numbers from the first on
unfoldable pub error_frames : ℕ → List NodeError → List ℕ
error_frames first [] = []
error_frames first (e ∷ errors) = frame_of first e ++ error_frames (first + 1) errors

-- of the entries of a kernel's journal, with running numbers from the first on
unfoldable pub journal_frames : ℕ → ℕ → List Entry → List ℕ
journal_frames kernel first [] = []
journal_frames kernel first (e ∷ es) = entry_frames kernel e first ++ journal_frames kernel (first + entry_length e) es

-- parts, one after the other
abbrev pub parts_together : List (List ℕ) → List ℕ
parts_together parts = flat_map (λ part. part) parts

-- of each session's journal, numbered from 1
unfoldable pub session_frames : List Taken → List (List Entry) → List ℕ
session_frames [] journals = []
session_frames (s ∷ sessions) [] = []
session_frames (s ∷ sessions) (es ∷ journals) = journal_frames s.kernel 1 es ++ session_frames sessions journals

-- all that is written of a node whose sessions have these journals
abbrev pub written : Node → List (List Entry) → List ℕ
written node journals = error_frames 1 node.errors ++ session_frames node.sessions journals

-- of sessions that were served, numbered from 1
unfoldable pub run_frames : List ServedSession → List ℕ
run_frames [] = []
run_frames (run ∷ runs) = journal_frames run.0 1 (journal_of run) ++ run_frames runs

-- the first of the bytes were added
abbrev pub AddsFront : Option (List ℕ) → Option (List ℕ) → List ℕ → Type 0
AddsFront old new bytes = (front : List ℕ) × (back : List ℕ) × (bytes ≡ front ++ back) × Adds old new front

-- ---- memory ran out at the frames of an error or of an entry: the frames of all that come before it were added

pub record AddsErrorsBefore (old new : Option (List ℕ)) (errors : List NodeError) : Type 0 where
  pub before : List NodeError
  pub failed : NodeError
  pub later : List NodeError
  pub parts : errors ≡ before ++ failed ∷ later
  pub adds : Adds old new (error_frames 1 before)

pub record AddsEntriesFrom (old new : Option (List ℕ)) (kernel first : ℕ) (entries : List Entry) : Type 0 where
  pub before : List Entry
  pub failed : Entry
  pub later : List Entry
  pub parts : entries ≡ before ++ failed ∷ later
  pub adds : Adds old new (journal_frames kernel first before)

abbrev pub AddsEntriesBefore : Option (List ℕ) → Option (List ℕ) → ℕ → List Entry → Type 0
AddsEntriesBefore old new kernel entries = AddsEntriesFrom old new kernel 1 entries

-- first those of the journals before, and then those of the entries before it in its own
pub record AddsJournalsBefore (old new : Option (List ℕ)) (sessions : List Taken) (journals : List (List Entry)) : Type 0 where
  pub sessions_before : List Taken
  pub session : Taken
  pub sessions_later : List Taken
  pub are_sessions : sessions ≡ sessions_before ++ session ∷ sessions_later
  pub journals_before : List (List Entry)
  pub journal : List Entry
  pub journals_later : List (List Entry)
  pub are_journals : journals ≡ journals_before ++ journal ∷ journals_later
  pub alike : length sessions_before ≡ length journals_before
  pub between : Option (List ℕ)
  pub first : Adds old between (session_frames sessions_before journals_before)
  pub then : AddsEntriesBefore between new session.kernel journal

-- of a node whose sessions have these journals
abbrev pub AddsBefore : Option (List ℕ) → Option (List ℕ) → Node → List (List Entry) → Type 0
AddsBefore old new node journals = AddsErrorsBefore old new node.errors
    ⊎ ((between : Option (List ℕ)) × Adds old between (error_frames 1 node.errors) × AddsJournalsBefore between new node.sessions journals)

-- the same of sessions that were served
pub record AddsRunsBefore (old new : Option (List ℕ)) (runs : List ServedSession) : Type 0 where
  pub before : List ServedSession
  pub run : ServedSession
  pub later : List ServedSession
  pub parts : runs ≡ before ++ run ∷ later
  pub between : Option (List ℕ)
  pub first : Adds old between (run_frames before)
  pub then : AddsEntriesBefore between new run.0 (journal_of run)

abbrev pub AddsServedBefore : Option (List ℕ) → Option (List ℕ) → List NodeError → List ServedSession → Type 0
AddsServedBefore old new errors runs = AddsErrorsBefore old new errors
    ⊎ ((between : Option (List ℕ)) × Adds old between (error_frames 1 errors) × AddsRunsBefore between new runs)

-- ---- on the way

-- the frames of these entries, in parts, and the number after theirs
abbrev pub IsBatch : ℕ → ℕ → List Entry → Made → Type 0
IsBatch kernel first entries made = (parts_together made.parts.items ≡ journal_frames kernel first entries) × (made.next ≡ first + sum_by entry_length entries)

-- memory ran out at an entry: what waited was added, and the frames of the entries before it
abbrev pub AddsBatchBefore : Option (List ℕ) → Option (List ℕ) → List ℕ → ℕ → ℕ → List Entry → Type 0
AddsBatchBefore old new waited kernel first entries = (between : Option (List ℕ)) × Adds old between waited × AddsEntriesFrom between new kernel first entries

-- the front of the bytes was added, and the rest is left
pub record WritesSoFar (old new : Option (List ℕ)) (bytes rest : List ℕ) : Type 0 where
  pub done : List ℕ
  pub parts : bytes ≡ done ++ rest
  pub adds : Adds old new done
