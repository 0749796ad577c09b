-- When a history graph says the truth about a run.
use Rattle.std.specs.Prelude.{◌≡◌, ℕ, suc, ◌<◌, ◌≤◌, ◌⊎◌, true, false, List, [], ◌∷◌, Contains, length, Option, Some, None, slice_get}
use Rattle.std.specs.FinMap as finite
use Rattle.nb_outside.specs.declared.feed.Drawn.{Drawn}
use Rattle.py_tree.specs.declared.statements.Stmt.{Stmt}
use Rattle.py_names.specs.Names.{is_identifier, is_variable}
use Rattle.py_heap.specs.declared.state.State.{State}
use Rattle.py_heap.specs.References.{IsClosed}
use Rattle.py_machine.specs.Runs.{Name, Outcome}
use Rattle.py_meaning.specs.Cells.{outcome, UsesUp, Asks}
use Rattle.py_laws.specs.Same.{Same}
use Rattle.graph_model.specs.declared.graph.CellRecord.{CellRecord}
use Rattle.graph_model.specs.declared.graph.Version.{Version}
use Rattle.graph_model.specs.declared.graph.Graph.{Graph}
use Rattle.graph_model.specs.Graphs.{CellAt, VersionAt}
use Rattle.linked_parts.specs.Parts.{HasValue, HasNone, Reaches, IsPart, Apart}
use Rattle.run_graph.specs.Histories.{Run, Looks, Binds, Changes, HoldsAfter}

-- ---- what every run keeps, by the meaning of a cell

-- it begins with no names; states are closed; a cell changes no value of a name that it doesn't bind or delete, and no old
-- object that it doesn't report
pub record IsRun (r : Run) : Type 0 where
  pub begins : (x : Name) → HasNone (r.state 0) x
  pub closed : (c : ℕ) → IsClosed (r.state c)
  pub values : (c : ℕ) (x : Name) → ¬ Binds r c x → finite.get (r.state (suc c)).globals x ≡ finite.get (r.state c).globals x
  pub objects : (c at : ℕ) → at < length (r.state c).heap → ¬ Changes r c at → slice_get (r.state (suc c)).heap at ≡ slice_get (r.state c).heap at

-- the same of the one cell after cell c
pub record Spares (r : Run) (c : ℕ) : Type 0 where
  pub closed : IsClosed (r.state c)
  pub values : (x : Name) → ¬ Binds r c x → finite.get (r.state (suc c)).globals x ≡ finite.get (r.state c).globals x
  pub objects : (at : ℕ) → at < length (r.state c).heap → ¬ Changes r c at → slice_get (r.state (suc c)).heap at ≡ slice_get (r.state c).heap at

-- what a cell binds may be bound, and what it looks up is an identifier
pub record HasNames (r : Run) : Type 0 where
  pub bound : (c : ℕ) (x : Name) → Binds r c x → is_variable x ≡ true
  pub looked : (c : ℕ) (x : Name) → Looks r c x → is_identifier x ≡ true

-- ---- the cells of a run are what the meaning says

-- which tree a code has, if it has one
abbrev pub TreeReader : Type 0
TreeReader = List ℕ → Option (List Stmt)

-- the statements that run: a code without a tree is refused for what it is, and runs none
abbrev pub statements : Option (List Stmt) → List Stmt
statements None = []
statements (Some body) = body

-- what a code does
abbrev pub done_by : TreeReader → List ℕ → State → List Drawn → Outcome (Option (List ℕ))
done_by read code s draws = outcome (statements (read code)) s draws

-- the state in which the cell after cell c began: that after cell c, but for the session's count
abbrev pub begun : Run → ℕ → State
begun r c = record (r.state c) { count = r.counts (suc c) }

-- what the cell after cell c did
abbrev pub done : TreeReader → Run → ℕ → Outcome (Option (List ℕ))
done read r c = done_by read (r.code (suc c)) (begun r c) (r.draws (suc c))

-- the cells of the run do what their codes say, each under just its draws
pub record Follows (read : TreeReader) (r : Run) : Type 0 where
  pub state : (c : ℕ) → r.state (suc c) ≡ (done read r c).1.state
  pub marks : (c : ℕ) → r.marks (suc c) ≡ (done read r c).1.marks
  pub steps : (c : ℕ) → r.steps (suc c) ≡ (done read r c).1.steps
  pub uses : (c : ℕ) → c < r.cells → UsesUp (statements (read (r.code (suc c)))) (begun r c) (r.draws (suc c))

-- ---- the first clause: the versions that hold after a cell

pub record AreTheParts (r : Run) (g : Graph) (c : ℕ) : Type 0 where
  -- no two have a name in common
  pub disjoint : (u v : ℕ) (x y : Version) (name : Name) → HoldsAfter g c u x → HoldsAfter g c v y → Contains x.names name → Contains y.names name → u ≡ v
  -- those with a value are exactly the parts of the state
  pub are_parts : (v : ℕ) (x : Version) → HoldsAfter g c v x → x.absent ≡ false → IsPart (r.state c) x.names
  pub all_parts : (name : Name) → HasValue (r.state c) name → (v : ℕ) × (x : Version) × HoldsAfter g c v x × (x.absent ≡ false) × Contains x.names name
  -- the others are exactly the names that were bound once and have no value
  pub are_deleted : (v : ℕ) (x : Version) → HoldsAfter g c v x → x.absent ≡ true
      → (name : Name) × (x.names ≡ name ∷ []) × HasNone (r.state c) name × (e : ℕ) × (e < c) × Binds r e name
  pub all_deleted : (name : Name) (e : ℕ) → e < c → Binds r e name → HasNone (r.state c) name
      → (v : ℕ) × (x : Version) × HoldsAfter g c v x × (x.absent ≡ true) × Contains x.names name

-- ---- the second clause: a version that holds is as its writer left it

abbrev pub StandsAsWritten : Run → Graph → ℕ → Type 0
StandsAsWritten r g c = (v : ℕ) (x : Version) → HoldsAfter g c v x → Same (Contains x.names) (r.state x.writer) (r.state c)

-- ---- the third clause: a cell repeats in a state with what it read

-- these names are in t as in s, and apart from all others
abbrev pub StandsIn : State → State → List Name → Type 0
StandsIn s t names = Same (Contains names) s t × Apart t names

-- t has what the cell after cell c needs: its meter, the versions that it read, and no value for what it missed
pub record HasItsReads (r : Run) (g : Graph) (c : ℕ) (x : CellRecord) (t : State) : Type 0 where
  pub closed : IsClosed t
  pub meter : t.meter ≡ x.meter
  pub reads : (v : ℕ) (y : Version) → Contains x.reads v → VersionAt g v y → StandsIn (r.state c) t y.names
  pub missing : (name : Name) → Contains x.missing name → HasNone t name

-- the name is in no version that the cell after cell c read or wrote
abbrev pub IsElsewhere : Graph → ℕ → CellRecord → Name → Type 0
IsElsewhere g c x name = (v : ℕ) (y : Version) → VersionAt g v y → Contains x.reads v ⊎ (y.writer ≡ suc c) → ¬ Contains y.names name

-- o is what the cell after cell c did in the run, and u what it does from t
pub record Repeats (r : Run) (g : Graph) (c : ℕ) (x : CellRecord) (t : State) (o u : Outcome (Option (List ℕ))) : Type 0 where
  pub ends : Asks u → ⊥
  pub result : o.0 ≡ u.0
  pub printed : o.1.printed ≡ u.1.printed
  pub steps : x.steps ≡ u.1.steps
  pub meter : o.1.state.meter ≡ u.1.state.meter
  pub wrote : (v : ℕ) (y : Version) → VersionAt g v y → y.writer ≡ suc c → StandsIn (r.state (suc c)) u.1.state y.names
  pub read : (v : ℕ) (y : Version) → Contains x.reads v → HoldsAfter g (suc c) v y → StandsIn (r.state (suc c)) u.1.state y.names
  pub names_stay : (name : Name) → IsElsewhere g c x name → finite.get u.1.state.globals name ≡ finite.get t.globals name
  pub objects_stay : (name : Name) → IsElsewhere g c x name → (at : ℕ) → Reaches t name at → slice_get u.1.state.heap at ≡ slice_get t.heap at

-- a cell that didn't draw: its recorded code, run from t without draws
abbrev pub RepeatsFromItsReads : TreeReader → Run → Graph → ℕ → Type 0
RepeatsFromItsReads read r g c = (x : CellRecord) (t : State) → CellAt g (suc c) x → x.drew ≡ false → HasItsReads r g c x t
    → Repeats r g c x t (done read r c) (done_by read x.code t [])

-- ---- sound: all three

pub record IsSound (read : TreeReader) (r : Run) (g : Graph) : Type 0 where
  pub parts : (c : ℕ) → c ≤ r.cells → AreTheParts r g c
  pub stands : (c : ℕ) → c ≤ r.cells → StandsAsWritten r g c
  pub repeats : (c : ℕ) → c < r.cells → RepeatsFromItsReads read r g c
