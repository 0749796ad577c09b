-- Handles in the parts of a state. The parts themselves: linked_parts/specs/Parts.antt.
use Rattle.std.specs.Prelude.{◌≡◌, ℕ, List, Some, slice_get}
use Rattle.py_heap.specs.declared.heap.Object.TheVariants as object
use Rattle.py_heap.specs.declared.state.State.{State}
use Rattle.py_heap.specs.Reaching.{Reach}
use Rattle.py_machine.specs.Runs.{Name}

-- an object that the names reach is a handle
abbrev pub HasHandle : State → List Name → Type 0
HasHandle s names = (at : ℕ) × (name : List ℕ) × (uses : ℕ) × Reach s names at × (slice_get s.heap at ≡ Some (object.Handle name uses))
