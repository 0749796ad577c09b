-- The texts of what names and addresses have in a state. They are the same by addresses and by the numbers of objects.
use Rattle.std.specs.Prelude.{ℕ, List, option_to_list, slice_get}
use Rattle.std.specs.List.{flat_map}
use Rattle.std.specs.FinMap as finite
use Rattle.py_heap.specs.declared.state.State.{State}
use Rattle.part_bytes.specs.Uses.{held_texts, object_texts}

-- those of the value of a name
abbrev pub held_texts_at : State → List ℕ → List (List ℕ)
held_texts_at s name = held_texts (finite.get s.globals name)

-- those of the object at an address; none if there is no object
abbrev pub object_texts_at : State → ℕ → List (List ℕ)
object_texts_at s at = flat_map object_texts (option_to_list (slice_get s.heap at))
