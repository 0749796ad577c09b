-- What a checkpoint is written of: a state, a history graph that tells of it, and a plan.
use Rattle.std.specs.Prelude.{◌≡◌, ℕ, ◌≤◌, true, false, List, Contains, length}
use Rattle.py_heap.specs.declared.state.State.{State}
use Rattle.py_heap.specs.References.{IsClosed}
use Rattle.graph_model.specs.declared.graph.CellRecord.{CellRecord}
use Rattle.graph_model.specs.declared.graph.Version.{Version}
use Rattle.graph_model.specs.declared.graph.Graph.{Graph}
use Rattle.graph_model.specs.declared.plan.Plan.{Plan}
use Rattle.graph_model.specs.Graphs.{IsActive}
use Rattle.graph_model.specs.Faults.{IsGraph}
use Rattle.linked_parts.specs.Parts.{HasValue, HasNone, IsPart}
use Rattle.part_bytes.specs.Sizing.{holds_handle, size_of}
use Rattle.checkpoint_bytes.specs.Texts.{lists}

-- its code has at most 262,148 bytes, it began with at most 16,777,216 units on the meter, and took at most 1,000,000 steps
pub record IsWithinBounds (x : CellRecord) : Type 0 where
  pub code : length x.code ≤ 262148
  pub meter : x.meter ≤ 16777216
  pub steps : x.steps ≤ 1000000

-- the versions that hold are the parts of the state, with their handles and the lengths of their texts; the others are absent
-- names
pub record AreVersionsOf (s : State) (g : Graph) : Type 0 where
  pub are_parts : (v : ℕ) (x : Version) → IsActive g v x → x.absent ≡ false → IsPart s x.names
  pub all_parts : (name : List ℕ) → HasValue s name → (v : ℕ) × (x : Version) × IsActive g v x × (x.absent ≡ false) × Contains x.names name
  pub are_absent : (v : ℕ) (x : Version) → IsActive g v x → x.absent ≡ true → (name : List ℕ) → Contains x.names name → HasNone s name
  pub handles : (v : ℕ) (x : Version) → IsActive g v x → x.handle ≡ holds_handle x.names s
  pub sizes : (v : ℕ) (x : Version) → IsActive g v x → x.size ≡ size_of x.names s

-- the part of the version has no handle if the plan copies it
abbrev pub IsMovableIfCopied : State → Plan → ℕ → Version → Type 0
IsMovableIfCopied s p v x = lists p.copied v ≡ true → holds_handle x.names s ≡ false

-- a history graph without a fault, whose versions that hold are the state's parts
pub record TellsOf (g : Graph) (s : State) : Type 0 where
  pub closed : IsClosed s
  pub graph : IsGraph g
  pub versions : AreVersionsOf s g
