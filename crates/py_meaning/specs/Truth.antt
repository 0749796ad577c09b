-- Which values count as true. (Python reference: truth value testing.)
use Rattle.std.specs.Prelude.{Bool, true, false, not, ◌==◌, length, Option, Some, None}
use Rattle.py_value.specs.declared.value.Value.{Value}
use Rattle.py_value.specs.declared.value.Value.TheVariants as value
use Rattle.py_value.specs.Values.{is_true}
use Rattle.py_heap.specs.declared.heap.Object.{Object}
use Rattle.py_heap.specs.declared.heap.Object.TheVariants as object
use Rattle.py_meaning.specs.Acts.{Act, ◌>>=◌, pure, object_at}

-- all but an empty list, tuple or dict; a reference to no object counts as None
abbrev pub object_true : Option Object → Bool
object_true (Some (object.List items)) = not (length items == 0)
object_true (Some (object.Tuple items)) = not (length items == 0)
object_true (Some (object.Dict pairs)) = not (length pairs == 0)
object_true (Some (object.Function def)) = true
object_true (Some (object.Handle name uses)) = true
object_true None = false

unfoldable pub truth_of : Value → Act Bool
truth_of (value.Ref at) = object_at at >>= (λ object. pure (object_true object))
truth_of held = pure (is_true held)
