-- The run of a list of cells, from the empty state, by the meaning of a cell.
use Rattle.std.specs.Prelude.{ℕ, zero, suc, ◌+◌, ◌-◌, ◌<◌, Bool, false, cond, List, [], length, get_or, Option}
use Rattle.nb_outside.specs.declared.feed.Drawn.{Drawn}
use Rattle.py_heap.specs.declared.state.State.{State}
use Rattle.py_heap.specs.States.{empty}
use Rattle.py_machine.specs.declared.marks.Marks.{Marks}
use Rattle.py_machine.specs.Marked.{no_marks}
use Rattle.py_machine.specs.Runs.{Name, Outcome}
use Rattle.py_meaning.specs.Cells.{UsesUp}
use Rattle.run_graph.specs.Histories.{Run}
use Rattle.run_graph.specs.Soundness.{TreeReader, statements, done_by}

-- a cell of a run list: its code as it is recorded, the draws that it takes, and whether it raises the session's count
pub record ListedCell : Type 0 where
  pub code : List ℕ
  pub draws : List Drawn
  pub counted : Bool

-- the entry after the last one
abbrev pub blank : ListedCell
blank = record { code = []; draws = []; counted = false }

-- the entry after the first c
abbrev pub entry : List ListedCell → ℕ → ListedCell
entry entries c = get_or entries c blank

abbrev pub raised : ListedCell → State → State
raised e s = record s { count = s.count + cond e.counted 1 0 }

-- what a cell does in a state of the session
abbrev pub entry_done : TreeReader → ListedCell → State → Outcome (Option (List ℕ))
entry_done read e s = done_by read e.code (raised e s) e.draws

-- the state after the first c
abbrev pub state_after : TreeReader → List ListedCell → ℕ → State
state_after read entries zero = empty
state_after read entries (suc c) = (entry_done read (entry entries c) (state_after read entries c)).1.state

abbrev pub marks_of : TreeReader → List ListedCell → ℕ → Marks
marks_of read entries zero = no_marks
marks_of read entries (suc c) = (entry_done read (entry entries c) (state_after read entries c)).1.marks

abbrev pub steps_of : TreeReader → List ListedCell → ℕ → ℕ
steps_of read entries zero = 0
steps_of read entries (suc c) = (entry_done read (entry entries c) (state_after read entries c)).1.steps

-- each cell takes just its draws, and asks for no more
abbrev pub IsRunList : TreeReader → List ListedCell → Type 0
IsRunList read entries = (c : ℕ) → c < length entries → UsesUp (statements (read (entry entries c).code)) (raised (entry entries c) (state_after read entries c)) (entry entries c).draws

abbrev pub run_of : TreeReader → (List Name → State → ℕ) → List ListedCell → Run
run_of read size entries = record {
  cells = length entries;
  state = state_after read entries;
  marks = marks_of read entries;
  code = λ c. (entry entries (c - 1)).code;
  steps = steps_of read entries;
  draws = λ c. (entry entries (c - 1)).draws;
  counts = λ c. (raised (entry entries (c - 1)) (state_after read entries (c - 1))).count;
  size = λ c names. size names (state_after read entries c);
}
