-- What a link is sent: the frames of the errors of its node, and of the entries of each session's journal. Those of one error, or of one
-- entry, go out together.
use Rattle.std.specs.Prelude.{◌≡◌, ℕ, ◌+◌, List, [], ◌∷◌, ◌++◌, map, take}
use Rattle.session_core.specs.declared.entry.Entry.{Entry}
use Rattle.reply_frames.specs.declared.node.NodeError.{NodeError}
use Rattle.reply_frames.specs.Nodes.{frame_of}
use Rattle.reply_frames.specs.Replies.{entry_frames, entry_length}
use Rattle.node_intake.specs.Intake.{Taken, Node}
use Rattle.node_run.specs.declared.open_session.OpenSession.{OpenSession}
use Rattle.node_run.specs.declared.open_session.NextEntry.{NextEntry}
use Rattle.node_run.specs.Journals.{ServedSession, journal_of}
use Rattle.node_run.specs.Unsent.{read_of}
use Rattle.node_serve.specs.Interleaving.{Interleaves}

-- the frame of each error, with running numbers from the first on
abbrev pub error_units : ℕ → List NodeError → List (List ℕ)
error_units first [] = []
error_units first (e ∷ errors) = frame_of first e ∷ error_units (first + 1) errors

-- the frames of each entry of a kernel's journal, with running numbers from the first on
abbrev pub entry_units : ℕ → ℕ → List Entry → List (List ℕ)
entry_units kernel first [] = []
entry_units kernel first (e ∷ es) = entry_frames kernel e first ∷ entry_units kernel (first + entry_length e) es

-- for each session, those of its journal, numbered from 1
abbrev pub session_units : List Taken → List (List Entry) → List (List (List ℕ))
session_units [] journals = []
session_units (s ∷ sessions) [] = []
session_units (s ∷ sessions) (es ∷ journals) = entry_units s.kernel 1 es ∷ session_units sessions journals

-- those of the errors of a node, and of each session, which has this journal
abbrev pub units_of : Node → List (List Entry) → List (List (List ℕ))
units_of node journals = error_units 1 node.errors ∷ session_units node.sessions journals

-- one after the other
abbrev pub joined : List (List ℕ) → List ℕ
joined [] = []
joined (unit ∷ units) = unit ++ joined units

-- all of these lists: each list's units in their order, one in between the others in any way
abbrev pub AllOf : List (List (List ℕ)) → List ℕ → Type 0
AllOf lists bytes = (units : List (List ℕ)) × Interleaves lists units × (bytes ≡ joined units)

-- the first bytes of that
abbrev pub FrontOf : List (List (List ℕ)) → List ℕ → Type 0
FrontOf lists bytes = (rest : List ℕ) × AllOf lists (bytes ++ rest)

-- All that there is to send of a node whose sessions have these journals: the errors in order, and each session's entries in their
-- order, one in between the others in any way.
abbrev pub IsAllOf : Node → List (List Entry) → List ℕ → Type 0
IsAllOf node journals bytes = AllOf (units_of node journals) bytes

-- the first bytes of it
abbrev pub IsFrontOf : Node → List (List Entry) → List ℕ → Type 0
IsFrontOf node journals bytes = FrontOf (units_of node journals) bytes

-- ---- while the link is served

-- those of what was read of a session
abbrev pub read_units : OpenSession → List (List ℕ)
read_units o = entry_units o.kernel 1 (read_of o)

-- those of the first errors, and of what was read of each session
abbrev pub units_so_far : ℕ → List NodeError → List OpenSession → List (List (List ℕ))
units_so_far told errors os = error_units 1 (take told errors) ∷ map read_units os

-- those of an entry that was read, and the number of the frame after them
unfoldable pub unit_of : NextEntry → List ℕ
unit_of next = entry_frames next.kernel next.entry next.first

unfoldable pub number_after : NextEntry → ℕ
number_after next = next.first + entry_length next.entry

-- those of a session that was served
abbrev pub run_units : ServedSession → List (List ℕ)
run_units run = entry_units run.0 1 (journal_of run)
