-- A session that ran a list of cells, and may have been moved: its graph is the history of these cells, and its state is the
-- same as after them.
use Rattle.std.specs.Prelude.{◌≡◌, ℕ, suc, List, length}
use Rattle.py_heap.specs.declared.state.State.{State}
use Rattle.py_heap.specs.References.{IsClosed}
use Rattle.py_machine.specs.Runs.{Name}
use Rattle.py_laws.specs.Same.{SameStates}
use Rattle.graph_model.specs.declared.graph.Graph.{Graph}
use Rattle.run_graph.specs.Histories.{Run, IsHistory}
use Rattle.run_graph.specs.Soundness.{TreeReader}
use Rattle.run_graph.specs.RunLists.{ListedCell, entry_done, state_after, IsRunList, run_of}

-- graph and state stand for these cells, run one after the other and never moved
pub record StandsFor (read : TreeReader) (size : List Name → State → ℕ) (entries : List ListedCell) (g : Graph) (t : State) : Type 0 where
  pub list : IsRunList read entries
  pub history : IsHistory (run_of read size entries) g
  pub closed : IsClosed t
  pub same : SameStates (state_after read entries (length entries)) t

-- the cell after cell c of run r is this one, run from the state t
pub record IsCellFrom (read : TreeReader) (size : List Name → State → ℕ) (e : ListedCell) (t : State) (c : ℕ) (r : Run) : Type 0 where
  pub before : r.state c ≡ t
  pub after : r.state (suc c) ≡ (entry_done read e t).1.state
  pub marks : r.marks (suc c) ≡ (entry_done read e t).1.marks
  pub code : r.code (suc c) ≡ e.code
  pub steps : r.steps (suc c) ≡ (entry_done read e t).1.steps
  pub sizes : (names : List Name) → r.size (suc c) names ≡ size names (r.state (suc c))
