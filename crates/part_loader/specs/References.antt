-- Objects that have references.
use Rattle.std.specs.Prelude.{Bool, true, false}
use Rattle.std.specs.List.{list_any}
use Rattle.py_value.specs.declared.value.Value.{Value}
use Rattle.py_value.specs.declared.value.Value.TheVariants as value
use Rattle.py_heap.specs.declared.heap.Object.{Object}
use Rattle.py_heap.specs.declared.heap.Object.TheVariants as object

abbrev pub is_reference : Value → Bool
is_reference (value.Ref at) = true
is_reference value.Nothing = false
is_reference (value.Bool truth) = false
is_reference (value.Number n) = false
is_reference (value.Text text) = false
is_reference (value.Builtin builtin) = false

abbrev pub refers : Object → Bool
refers (object.List items) = list_any is_reference items
refers (object.Tuple items) = list_any is_reference items
refers (object.Dict pairs) = list_any (λ pair. is_reference pair.1) pairs
refers (object.Function def) = false
refers (object.Handle name uses) = false
