-- What a change makes of an object, and kinds.
use Rattle.std.specs.Prelude.{ℕ, List, [], ◌∷◌, ◌++◌, Option, Some, None, cond, nat_lt, nat_le, length, slice_set, insert, remove}
use Rattle.py_value.specs.declared.value.Value.{Value}
use Rattle.py_value.specs.declared.value.Value.TheVariants as value
use Rattle.py_heap.specs.declared.heap.Object.{Object}
use Rattle.py_heap.specs.declared.heap.Object.TheVariants as object
use Rattle.py_heap.specs.Dicts.{Pairs, with_pair, without_key}
use Rattle.py_heap.specs.States.{raised}
use Rattle.py_machine.specs.declared.frame.Change.{Change}
use Rattle.py_machine.specs.declared.frame.Change.TheVariants as change
use Rattle.py_machine.specs.declared.kind.ValueKind.{ValueKind}
use Rattle.py_machine.specs.declared.kind.ValueKind.TheVariants as kind

-- what the change makes of a list's items, if it is one for lists and the index is there
abbrev pub changed_items : Change → List Value → Option Object
changed_items (change.Push last) items = Some (object.List (items ++ last ∷ []))
changed_items (change.Extend more) items = Some (object.List (items ++ more))
changed_items (change.Insert at item) items = cond (nat_le at (length items)) (Some (object.List (insert items at item))) None
changed_items (change.Set at item) items = cond (nat_lt at (length items)) (Some (object.List (slice_set items at item))) None
changed_items (change.Remove at) items = cond (nat_lt at (length items)) (Some (object.List (remove items at))) None
changed_items change.Clear items = Some (object.List [])
changed_items _ items = None

-- what the change makes of a dict's pairs, if it is one for dicts
abbrev pub changed_pairs : Change → Pairs → Option Object
changed_pairs (change.Put key held) pairs = Some (object.Dict (with_pair pairs key held))
changed_pairs (change.Drop key) pairs = Some (object.Dict (without_key pairs key))
changed_pairs change.Clear pairs = Some (object.Dict [])
changed_pairs _ pairs = None

-- what the change makes of a handle, if it is one for handles
abbrev pub changed_handle : Change → List ℕ → ℕ → Option Object
changed_handle change.Use name uses = Some (object.Handle name (raised uses))
changed_handle _ name uses = None

-- what the change makes of an object, if the object is of the kind that it is for: none is for tuples
abbrev pub changed : Change → Object → Option Object
changed c (object.List items) = changed_items c items
changed c (object.Tuple items) = None
changed c (object.Dict pairs) = changed_pairs c pairs
changed c (object.Function def) = None
changed c (object.Handle name uses) = changed_handle c name uses

abbrev pub changed_in : Change → Option Object → Option Object
changed_in c None = None
changed_in c (Some old) = changed c old

-- the items, if it is a list
abbrev pub list_in : Option Object → Option (List Value)
list_in (Some (object.List items)) = Some items
list_in _ = None

-- a reference to no object counts as None; a session has none such
abbrev pub object_kind : Option Object → ValueKind
object_kind None = kind.Nothing
object_kind (Some (object.List items)) = kind.List
object_kind (Some (object.Tuple items)) = kind.Tuple
object_kind (Some (object.Dict pairs)) = kind.Dict
object_kind (Some (object.Function def)) = kind.Function
object_kind (Some (object.Handle name uses)) = kind.Handle

-- the kind of a value that isn't looked into
abbrev pub plain_kind : Value → ValueKind
plain_kind value.Nothing = kind.Nothing
plain_kind (value.Bool truth) = kind.Bool
plain_kind (value.Number number) = kind.Number
plain_kind (value.Text text) = kind.Text
plain_kind (value.Ref at) = kind.Nothing
plain_kind (value.Builtin builtin) = kind.Builtin
