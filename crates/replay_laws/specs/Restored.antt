-- A restored state: the same as the last of the run, with the active versions as its parts.
use Rattle.std.specs.Prelude.{◌≡◌, ◌↔◌, ℕ, true, false, List, Contains}
use Rattle.py_heap.specs.declared.state.State.{State}
use Rattle.py_heap.specs.References.{IsClosed}
use Rattle.py_machine.specs.Runs.{Name}
use Rattle.py_laws.specs.Same.{Same, SameStates}
use Rattle.graph_model.specs.declared.graph.Version.{Version}
use Rattle.graph_model.specs.declared.graph.Graph.{Graph}
use Rattle.graph_model.specs.Graphs.{IsActive}
use Rattle.linked_parts.specs.Parts.{HasValue, HasNone, IsPart}
use Rattle.run_graph.specs.Parts.{HasHandle}

-- t with the count and the meter of s
abbrev pub with_tallies : State → State → State
with_tallies s t = record t { count = s.count; meter = s.meter }

-- the active versions with a value are exactly the parts of t, with their handles; the names of the others have no value
pub record HasVersions (g : Graph) (t : State) : Type 0 where
  pub are_parts : (v : ℕ) (x : Version) → IsActive g v x → x.absent ≡ false → IsPart t x.names
  pub all_parts : (name : Name) → HasValue t name → (v : ℕ) × (x : Version) × IsActive g v x × (x.absent ≡ false) × Contains x.names name
  pub handles : (v : ℕ) (x : Version) → IsActive g v x → (x.handle ≡ true) ↔ HasHandle t x.names
  pub are_absent : (v : ℕ) (x : Version) → IsActive g v x → x.absent ≡ true → (name : Name) → Contains x.names name → HasNone t name

-- t is the last state of the run again, once it has that one's count and meter
pub record IsRestored (g : Graph) (last t : State) : Type 0 where
  pub closed : IsClosed t
  pub same : SameStates last (with_tallies last t)
  pub none : (name : Name) → HasNone last name ↔ HasNone t name
  pub versions : HasVersions g t

-- closed states that are the same over some names have one length of the text of their part
abbrev pub TellsAlike : (List Name → State → ℕ) → Type 0
TellsAlike size = (names : List Name) (s t : State) → IsClosed s → IsClosed t → Same (Contains names) s t → size names s ≡ size names t
