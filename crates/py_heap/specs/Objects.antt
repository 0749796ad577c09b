-- Objects by their addresses.
use Rattle.std.specs.Prelude.{ℕ, Bool, true, false, ◌||◌, IsTrue, List, [], Option, Some, slice_get}
use Rattle.py_value.specs.declared.value.Value.{Value}
use Rattle.py_heap.specs.declared.heap.Object.{Object}
use Rattle.py_heap.specs.declared.heap.Object.TheVariants as object
use Rattle.py_heap.specs.Dicts.{Pairs}

-- there is an object, and it is a list
abbrev pub is_list : Option Object → Bool
is_list (Some (object.List items)) = true
is_list _ = false

abbrev pub is_dict : Option Object → Bool
is_dict (Some (object.Dict pairs)) = true
is_dict _ = false

abbrev pub is_function : Option Object → Bool
is_function (Some (object.Function def)) = true
is_function _ = false

abbrev pub is_handle : Option Object → Bool
is_handle (Some (object.Handle name uses)) = true
is_handle _ = false

-- at this address there is an object, and it is a list
abbrev pub IsListAt : List Object → ℕ → Type 0
IsListAt heap at = IsTrue (is_list (slice_get heap at))

abbrev pub IsDictAt : List Object → ℕ → Type 0
IsDictAt heap at = IsTrue (is_dict (slice_get heap at))

abbrev pub IsFunctionAt : List Object → ℕ → Type 0
IsFunctionAt heap at = IsTrue (is_function (slice_get heap at))

abbrev pub IsHandleAt : List Object → ℕ → Type 0
IsHandleAt heap at = IsTrue (is_handle (slice_get heap at))

abbrev pub IsListOrDictAt : List Object → ℕ → Type 0
IsListOrDictAt heap at = IsTrue (is_list (slice_get heap at) || is_dict (slice_get heap at))

-- the items of a list or a tuple, and none of anything else
abbrev pub items_of : Option Object → List Value
items_of (Some (object.List items)) = items
items_of (Some (object.Tuple items)) = items
items_of _ = []

-- the pairs of a dict, and none of anything else
abbrev pub pairs_of : Option Object → Pairs
pairs_of (Some (object.Dict pairs)) = pairs
pairs_of _ = []

-- the name of a handle, and its uses
abbrev pub name_of : Option Object → List ℕ
name_of (Some (object.Handle name uses)) = name
name_of _ = []

abbrev pub uses_of : Option Object → ℕ
uses_of (Some (object.Handle name uses)) = uses
uses_of _ = 0

-- the items of the list or the tuple at this address, and so on
abbrev pub items_at : List Object → ℕ → List Value
items_at heap at = items_of (slice_get heap at)

abbrev pub pairs_at : List Object → ℕ → Pairs
pairs_at heap at = pairs_of (slice_get heap at)

abbrev pub name_at : List Object → ℕ → List ℕ
name_at heap at = name_of (slice_get heap at)

abbrev pub uses_at : List Object → ℕ → ℕ
uses_at heap at = uses_of (slice_get heap at)
