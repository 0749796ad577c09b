-- The invariant of the walk.
use Rattle.std.specs.Prelude.{ℕ, ◌<◌, ◌⊎◌, Contains}
use Rattle.py_heap.specs.declared.state.State.{State}
use Rattle.py_heap.specs.References.{IsClosed}
use Rattle.py_machine.specs.Runs.{Name}
use Rattle.graph_model.specs.declared.graph.Version.{Version}
use Rattle.graph_model.specs.declared.graph.Graph.{Graph}
use Rattle.graph_model.specs.declared.plan.Plan.{Plan}
use Rattle.linked_parts.specs.Parts.{HasNone}
use Rattle.run_graph.specs.Histories.{Run, Binds, HoldsAfter}
use Rattle.run_graph.specs.Soundness.{StandsIn}

-- the plan gives version v, which is x, back: it is copied, or its writer is run again
abbrev pub IsGivenBack : Plan → ℕ → Version → Type 0
IsGivenBack p v x = Contains p.copied v ⊎ Contains p.rerun x.writer

-- after cell c: each version that holds and is back is the same as in the run, and apart from all other names; a name that
-- no cell up to c bound has no value. A name of no version that is back may be stale. Nothing is said of it but that it
-- shares nothing with a version that is back, since that is apart
pub record IsGood (r : Run) (g : Graph) (c : ℕ) (IsBack : ℕ → Version → Type 0) (t : State) : Type 0 where
  pub closed : IsClosed t
  pub stands : (v : ℕ) (x : Version) → HoldsAfter g c v x → IsBack v x → StandsIn (r.state c) t x.names
  pub never : (name : Name) → ((e : ℕ) → e < c → ¬ Binds r e name) → HasNone t name
