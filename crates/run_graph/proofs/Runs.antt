-- The run of a list of cells is a run, and its cells do what their codes say.
use Rattle.std.proofs.Common.{◌≡◌, ℕ, zero, suc, ◌-◌, List, refl, sym, subst, arith}
use Rattle.std.specs.FinMap as finite
use Rattle.std.specs.Ordering.{nat_cmp}
use Rattle.std.specs.Cmp.Lexicographic.{slice_cmp}
use Rattle.py_heap.specs.declared.state.State.{State}
use Rattle.py_heap.specs.References.{IsClosed}
use Rattle.py_heap.proofs.Closed.{empty_closed}
use Rattle.py_machine.specs.Runs.{Name, start}
use Rattle.py_meaning.specs.Cells.{UsesUp}
use Rattle.py_meaning.specs.Meaning.{cell}
use Rattle.py_laws.proofs.Sparing.{Spared, spared}
use Rattle.py_laws.proofs.Closing.{closed_after}
use Rattle.run_graph.specs.Soundness.{IsRun, TreeReader, statements, done_by, Follows}
use Rattle.run_graph.specs.RunLists.{ListedCell, entry, raised, entry_done, state_after, marks_of, steps_of, IsRunList, run_of}

pub raised_closed : (e : ListedCell) (s : State) → IsClosed s → IsClosed (raised e s)
raised_closed e s c = record { names = c.names; objects = c.objects }

module _ (read : TreeReader) (entries : List ListedCell) where
  all_closed : (c : ℕ) → IsClosed (state_after read entries c)
  all_closed zero = empty_closed
  all_closed (suc c) =
      let e : ListedCell = entry entries c in
      let s : State = state_after read entries c in
      closed_after (statements (read e.code)) e.draws (raised e s) (raised_closed e s (all_closed c))

  abbrev before_cell : ℕ → State
  before_cell c = raised (entry entries c) (state_after read entries c)

  abbrev spares : (c : ℕ) → Spared (start (before_cell c)) (entry_done read (entry entries c) (state_after read entries c)).1
  spares c = spared (cell (statements (read (entry entries c).code))) (entry entries c).draws (start (before_cell c))

  module _ (size : List Name → State → ℕ) where
    pub is_run : IsRun (run_of read size entries)
    is_run = record {
      begins = λ x. finite.get-empty (slice_cmp nat_cmp) x;
      closed = all_closed;
      values = λ c x free. (spares c).names x free;
      objects = λ c at l free. (spares c).objects at l free;
    }

    before : (c : ℕ) → suc c - 1 ≡ c
    before c = omega arith

    -- what the cell after cell c did, told by the entry after the first n
    abbrev told_by : ℕ → ℕ → Type 0
    told_by c n = (state_after read entries (suc c) ≡ (done_by read (entry entries n).code (record (state_after read entries c) { count = (raised (entry entries n) (state_after read entries n)).count }) (entry entries n).draws).1.state)
        × (marks_of read entries (suc c) ≡ (done_by read (entry entries n).code (record (state_after read entries c) { count = (raised (entry entries n) (state_after read entries n)).count }) (entry entries n).draws).1.marks)
        × (steps_of read entries (suc c) ≡ (done_by read (entry entries n).code (record (state_after read entries c) { count = (raised (entry entries n) (state_after read entries n)).count }) (entry entries n).draws).1.steps)

    told : (c : ℕ) → told_by c (suc c - 1)
    told c = subst (λ n. told_by c n) (sym (before c)) (refl, refl, refl)

    uses_by : (c n : ℕ) → n ≡ c → UsesUp (statements (read (entry entries c).code)) (before_cell c) (entry entries c).draws
        → UsesUp (statements (read (entry entries n).code)) (record (state_after read entries c) { count = (raised (entry entries n) (state_after read entries n)).count }) (entry entries n).draws
    uses_by c n e u = subst (λ m. UsesUp (statements (read (entry entries m).code)) (record (state_after read entries c) { count = (raised (entry entries m) (state_after read entries m)).count }) (entry entries m).draws) (sym e) u

    pub follows : IsRunList read entries → Follows read (run_of read size entries)
    follows list = record {
      state = λ c. (told c).0;
      marks = λ c. (told c).1;
      steps = λ c. (told c).2;
      uses = λ c l. uses_by c (suc c - 1) (before c) (list c l);
    }
