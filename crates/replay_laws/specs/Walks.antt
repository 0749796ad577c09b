-- The walk of a restoration: from the empty state, cell by cell. A cell that the plan runs again is run, and then the copied
-- versions that the cell wrote are given back.
use Rattle.std.specs.Prelude.{◌≡◌, ◌≢◌, ℕ, zero, suc, ◌<◌, ◌≤◌, ◌⊎◌, true, false, List, [], ◌∷◌, Contains, Option, length, slice_get}
use Rattle.std.specs.FinMap as finite
use Rattle.py_heap.specs.declared.state.State.{State}
use Rattle.py_heap.specs.States.{empty, without_name}
use Rattle.py_heap.specs.Reaching.{Reach}
use Rattle.py_heap.specs.References.{IsClosed}
use Rattle.py_machine.specs.Runs.{Name, Outcome}
use Rattle.py_meaning.specs.Cells.{Asks}
use Rattle.py_laws.specs.Same.{Same}
use Rattle.graph_model.specs.declared.graph.CellRecord.{CellRecord}
use Rattle.graph_model.specs.declared.graph.Version.{Version}
use Rattle.graph_model.specs.declared.graph.Graph.{Graph}
use Rattle.graph_model.specs.declared.plan.Plan.{Plan}
use Rattle.graph_model.specs.Graphs.{CellAt, VersionAt}
use Rattle.run_graph.specs.Soundness.{TreeReader, done_by}

-- ---- a cell

abbrev pub with_meter : State → ℕ → State
with_meter t meter = record t { meter = meter }

-- what the recorded code of a cell does again: from the recorded meter and without draws. What it prints is dropped
abbrev pub done_again : TreeReader → CellRecord → State → Outcome (Option (List ℕ))
done_again read x t = done_by read x.code (with_meter t x.meter) []

-- cell c is run again if the plan says so, without asking for a draw, and else it is passed over
abbrev pub Passes : TreeReader → Graph → Plan → ℕ → State → State → Type 0
Passes read g p c t u =
    (Contains p.rerun c × (x : CellRecord) × CellAt g c x × (¬ Asks (done_again read x t)) × (u ≡ (done_again read x t).1.state))
    ⊎ ((¬ Contains p.rerun c) × (u ≡ t))

-- ---- the copied versions that the cell wrote

-- t becomes u: the names are there as in the copy, what they reach is new, and all else stays
pub record IsLoaded (names : List Name) (copy t u : State) : Type 0 where
  pub closed : IsClosed u
  pub same : Same (Contains names) copy u
  pub new : (at : ℕ) → Reach u names at → length t.heap ≤ at
  pub others : (x : Name) → ¬ Contains names x → finite.get u.globals x ≡ finite.get t.globals x
  pub objects : (at : ℕ) → at < length t.heap → slice_get u.heap at ≡ slice_get t.heap at
  pub count : u.count ≡ t.count
  pub meter : u.meter ≡ t.meter

-- version v, which is x, is loaded from its copy; if it is absent, its one name loses its value
abbrev pub GivesBack : (ℕ → State) → ℕ → Version → State → State → Type 0
GivesBack copy v x t u =
    ((x.absent ≡ false) × IsLoaded x.names (copy v) t u)
    ⊎ ((x.absent ≡ true) × (name : Name) × (x.names ≡ name ∷ []) × (u ≡ without_name t name))

-- if cell c wrote it
abbrev pub GivesBackFrom : (ℕ → State) → ℕ → ℕ → Version → State → State → Type 0
GivesBackFrom copy c v x t u = ((x.writer ≡ c) × GivesBack copy v x t u) ⊎ ((x.writer ≢ c) × (u ≡ t))

-- of these versions those that cell c wrote are given back, one after the other
abbrev pub GivesAllBack : (ℕ → State) → Graph → ℕ → List ℕ → State → State → Type 0
GivesAllBack copy g c [] t u = u ≡ t
GivesAllBack copy g c (v ∷ vs) t u = (x : Version) × (m : State) × VersionAt g v x × GivesBackFrom copy c v x t m × GivesAllBack copy g c vs m u

-- ---- the walk

-- over the first c cells, from the empty state to t; each version that is copied has a copy, a state of its own with its names
pub data Walked (read : TreeReader) (copy : ℕ → State) (g : Graph) (p : Plan) : ℕ → State → Type 0 where
  begins : Walked read copy g p zero empty
  goes_on : (c : ℕ) (t m u : State) → Walked read copy g p c t → Passes read g p (suc c) t m → GivesAllBack copy g (suc c) p.copied m u
      → Walked read copy g p (suc c) u
