-- How long the bytes of a part are. An address is as long as the number of its object, so no numbering is needed.
use Rattle.std.specs.Prelude.{ℕ, ◌+◌, ◌<◌, ◌^◌, List, length, Option, SomeIff, option_to_list, slice_get}
use Rattle.std.specs.List.{flat_map}
use Rattle.std.specs.FinMap as finite
use Rattle.py_heap.specs.declared.state.State.{State}
use Rattle.part_bytes.specs.Texts.{held_bytes, object_bytes}

-- a total and the length of these bytes, if four bytes hold that
abbrev pub Adds : ℕ → List ℕ → Option ℕ → Type 0
Adds total bytes result = SomeIff result (total + length bytes < 2 ^ 32) (total + length bytes)

-- the bytes of what a name has, by addresses
abbrev pub held_at : State → List ℕ → List ℕ
held_at s name = held_bytes (finite.get s.globals name)

-- the bytes of the object at an address, by addresses; none if there is no object
abbrev pub object_at : State → ℕ → List ℕ
object_at s at = flat_map object_bytes (option_to_list (slice_get s.heap at))
