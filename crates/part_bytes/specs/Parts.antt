-- A part of a state by itself: its names, their values and the objects that they reach, with objects by number.
use Rattle.std.specs.Prelude.{ℕ, zero, suc, ◌+◌, ◌==◌, cond, List, [], ◌∷◌, length, map, Option, option_to_list, slice_get}
use Rattle.std.specs.Option.{option_map}
use Rattle.std.specs.List.{flat_map}
use Rattle.std.specs.FinMap as finite
use Rattle.py_value.specs.declared.key.Key.{Key}
use Rattle.py_value.specs.declared.value.Value.{Value}
use Rattle.py_value.specs.declared.value.Value.TheVariants as value
use Rattle.py_heap.specs.declared.heap.Object.{Object}
use Rattle.py_heap.specs.declared.heap.Object.TheVariants as object
use Rattle.py_heap.specs.declared.state.State.{State}
use Rattle.py_heap.specs.Reaching.{firsts, met}
use Rattle.part_bytes.specs.declared.part.PartValue.{PartValue}

-- ---- the one numbering of objects

-- the objects that are found by looking n times: what is met first in the values of the names, and then in the objects
-- that were found by looking once less, in the order in which they were found
abbrev pub found_by : ℕ → State → List (List ℕ) → List ℕ
found_by zero s names = []
found_by (suc n) s names = firsts (met s names (found_by n s names))

-- the objects that the names reach, in the order in which they are reached first; looking as often as there are
-- objects finds them all
unfoldable pub order : State → List (List ℕ) → List ℕ
order s names = found_by (length s.heap) s names

-- the number of an object: how many come before it
abbrev pub number_in : List ℕ → ℕ → ℕ
number_in [] at = 0
number_in (n ∷ ns) at = cond (n == at) 0 (number_in ns at + 1)

-- ---- values and objects with a number for each address

abbrev pub numbered : (ℕ → ℕ) → Value → Value
numbered number (value.Ref at) = value.Ref (number at)
numbered number value.Nothing = value.Nothing
numbered number (value.Bool truth) = value.Bool truth
numbered number (value.Number n) = value.Number n
numbered number (value.Text text) = value.Text text
numbered number (value.Builtin builtin) = value.Builtin builtin

abbrev pub numbered_pair : (ℕ → ℕ) → Key × Value → Key × Value
numbered_pair number pair = (pair.0, numbered number pair.1)

abbrev pub numbered_object : (ℕ → ℕ) → Object → Object
numbered_object number (object.List items) = object.List (map (numbered number) items)
numbered_object number (object.Tuple items) = object.Tuple (map (numbered number) items)
numbered_object number (object.Dict pairs) = object.Dict (map (numbered_pair number) pairs)
numbered_object number (object.Function def) = object.Function def
numbered_object number (object.Handle name uses) = object.Handle name uses

-- ---- the part

-- the value of a name, if it has one
abbrev pub held_of : State → (ℕ → ℕ) → List ℕ → Option Value
held_of s number name = option_map (numbered number) (finite.get s.globals name)

-- the object at an address, as a list of one, or an empty list if there is no object
abbrev pub objects_of : State → (ℕ → ℕ) → ℕ → List Object
objects_of s number at = map (numbered_object number) (option_to_list (slice_get s.heap at))

-- these names, their values, and the objects that they reach in their order
abbrev pub part_of : State → List (List ℕ) → PartValue
part_of s names = record {
  names = names;
  values = map (held_of s (number_in (order s names))) names;
  objects = flat_map (objects_of s (number_in (order s names))) (order s names);
}
