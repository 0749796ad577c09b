-- The size of a version: the length of the text of its part.
use Rattle.std.specs.Prelude.{ℕ, Bool, true, false, cond, List, length, is_some, Option, Some, None, slice_get}
use Rattle.std.specs.List.{list_any, list_all}
use Rattle.std.specs.FinMap as finite
use Rattle.py_heap.specs.declared.heap.Object.{Object}
use Rattle.py_heap.specs.declared.heap.Object.TheVariants as object
use Rattle.py_heap.specs.declared.state.State.{State}
use Rattle.part_bytes.specs.Parts.{order}
use Rattle.part_bytes.specs.Texts.{part_text}

abbrev pub is_handle : Option Object → Bool
is_handle (Some (object.Handle name uses)) = true
is_handle (Some (object.List items)) = false
is_handle (Some (object.Tuple items)) = false
is_handle (Some (object.Dict pairs)) = false
is_handle (Some (object.Function def)) = false
is_handle None = false

-- an object that the names reach is a handle
abbrev pub holds_handle : List (List ℕ) → State → Bool
holds_handle names s = list_any (λ at. is_handle (slice_get s.heap at)) (order s names)

-- each of the names has a value
abbrev pub have_values : List (List ℕ) → State → Bool
have_values names s = list_all (λ name. is_some (finite.get s.globals name)) names

-- the length of the text of the part with these names; 0 if a handle is in it, and of a name without a value
abbrev pub size_of : List (List ℕ) → State → ℕ
size_of names s = cond (holds_handle names s) 0 (cond (have_values names s) (length (part_text s names)) 0)
