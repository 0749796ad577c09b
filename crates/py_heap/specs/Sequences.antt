-- Lists and tuples as sequences of values.
use Rattle.std.specs.Prelude.{List}
use Rattle.py_value.specs.declared.value.Value.{Value}
use Rattle.py_heap.specs.declared.heap.Object.{Object}
use Rattle.py_heap.specs.declared.heap.Object.TheVariants as object
use Rattle.py_heap.specs.declared.heap.SequenceKind.{SequenceKind}
use Rattle.py_heap.specs.declared.heap.SequenceKind.TheVariants as kind

-- the list or the tuple of these values
abbrev pub sequence : SequenceKind → List Value → Object
sequence kind.List items = object.List items
sequence kind.Tuple items = object.Tuple items
