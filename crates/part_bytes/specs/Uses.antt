-- The texts to which the bytes of a part refer, in their order and as often as they come.
use Rattle.std.specs.Prelude.{ℕ, List, [], ◌∷◌, ◌++◌, Option, Some, None}
use Rattle.std.specs.List.{flat_map}
use Rattle.py_value.specs.declared.key.Key.{Key}
use Rattle.py_value.specs.declared.value.Value.{Value}
use Rattle.py_value.specs.declared.value.Value.TheVariants as value
use Rattle.py_value.specs.Keys.{value_of}
use Rattle.py_heap.specs.declared.heap.Object.{Object}
use Rattle.py_heap.specs.declared.heap.Object.TheVariants as object
use Rattle.py_heap.specs.declared.state.State.{State}
use Rattle.part_bytes.specs.declared.part.PartValue.{PartValue}
use Rattle.part_bytes.specs.Parts.{part_of}

abbrev pub value_texts : Value → List (List ℕ)
value_texts (value.Text text) = text ∷ []
value_texts value.Nothing = []
value_texts (value.Bool truth) = []
value_texts (value.Number n) = []
value_texts (value.Ref at) = []
value_texts (value.Builtin builtin) = []

abbrev pub held_texts : Option Value → List (List ℕ)
held_texts (Some value) = value_texts value
held_texts None = []

abbrev pub pair_texts : Key × Value → List (List ℕ)
pair_texts pair = value_texts (value_of pair.0) ++ value_texts pair.1

-- the items of a list or a tuple, the pairs of a dict, the source of a function
abbrev pub object_texts : Object → List (List ℕ)
object_texts (object.List items) = flat_map value_texts items
object_texts (object.Tuple items) = flat_map value_texts items
object_texts (object.Dict pairs) = flat_map pair_texts pairs
object_texts (object.Function def) = def.source ∷ []
object_texts (object.Handle name uses) = []

-- those of the values, name by name, and then those of the objects, object by object
abbrev pub texts_of : PartValue → List (List ℕ)
texts_of part = flat_map held_texts part.values ++ flat_map object_texts part.objects

-- those of the part of a state with these names
abbrev pub part_texts : State → List (List ℕ) → List (List ℕ)
part_texts s names = texts_of (part_of s names)
