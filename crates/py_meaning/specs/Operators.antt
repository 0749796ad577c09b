-- What the operators of sums and products give, and signs. (Python reference: unary and binary arithmetic operations.)
use Rattle.std.specs.Prelude.{ℕ, zero, suc, ◌+◌, ℤ, pos, negsuc, neg_ℤ, Bool, List, ◌++◌, length, sum_by, true, false, Option, Some, None}
use Rattle.std.specs.List.{repeat}
use Rattle.py_tree.specs.declared.expressions.Op.{Op}
use Rattle.py_tree.specs.declared.expressions.Op.TheVariants as op
use Rattle.py_value.specs.declared.value.Value.{Value}
use Rattle.py_value.specs.declared.value.Value.TheVariants as value
use Rattle.py_value.specs.Values.{weight}
use Rattle.py_heap.specs.declared.heap.Object.{Object}
use Rattle.py_heap.specs.declared.heap.Object.TheVariants as object
use Rattle.py_heap.specs.declared.heap.SequenceKind.{SequenceKind}
use Rattle.py_heap.specs.declared.heap.SequenceKind.TheVariants as kind
use Rattle.py_heap.specs.Sequences.{sequence}
use Rattle.py_machine.specs.Errors.{unsupported_operands, bad_operand}
use Rattle.py_meaning.specs.Acts.{Act, ◌>>=◌, ◌>>◌, pure, fail, step, charge, add, object_at, kind_of}
use Rattle.py_meaning.specs.Numbers.{as_number, number, calculated}

-- this many steps
unfoldable pub steps : ℕ → Act (Unit {0})
steps zero = pure tt
steps (suc n) = step >> steps n

-- a list or a tuple that a display or an operator makes is charged 1 and the weights of its items
abbrev pub sequence_units : List Value → ℕ
sequence_units items = 1 + sum_by weight items

-- a new list or tuple
unfoldable pub made : SequenceKind → List Value → Act Value
made kind items = do
  at ← add (sequence kind items)
  pure (value.Ref at)

-- a new list or tuple of copied items: the charge comes first, and then a step for each item
unfoldable pub joined : SequenceKind → List Value → Act Value
joined kind items = do
  charge (sequence_units items)
  steps (length items)
  made kind items

-- a text that is made is charged by its bytes
unfoldable pub made_text : List ℕ → Act Value
made_text text = charge (length text) >> pure (value.Text text)

unfoldable pub unsupported : Op → Value → Value → Act Value
unsupported o left right = do
  left_kind ← kind_of left
  right_kind ← kind_of right
  fail (unsupported_operands o left_kind right_kind)

-- two lists or two tuples
abbrev pub objects_joined : ℕ → ℕ → Option Object → Option Object → Act Value
objects_joined a b (Some (object.List items)) (Some (object.List more)) = joined kind.List (items ++ more)
objects_joined a b (Some (object.Tuple items)) (Some (object.Tuple more)) = joined kind.Tuple (items ++ more)
objects_joined a b one other = unsupported op.Plus (value.Ref a) (value.Ref b)

unfoldable pub refs_joined : ℕ → ℕ → Act Value
refs_joined a b = do
  object ← object_at a
  other ← object_at b
  objects_joined a b object other

-- `+` between what isn't two numbers
abbrev pub together : Value → Value → Act Value
together (value.Text text) (value.Text more) = made_text (text ++ more)
together (value.Ref a) (value.Ref b) = refs_joined a b
together left right = unsupported op.Plus left right

-- ---- repetition: of a text, a list or a tuple, by a number on either side; a number below 1 gives an empty one

abbrev pub times : ℤ → ℕ
times (pos n) = n
times (negsuc n) = 0

abbrev pub object_repeated : ℤ → Value → Value → Option Object → Act Value
object_repeated n left right (Some (object.List items)) = joined kind.List (repeat (times n) items)
object_repeated n left right (Some (object.Tuple items)) = joined kind.Tuple (repeat (times n) items)
object_repeated n left right other = unsupported op.Times left right

unfoldable pub ref_repeated : ℤ → Value → Value → ℕ → Act Value
ref_repeated n left right at = object_at at >>= object_repeated n left right

-- a text, a list or a tuple, which is one of the two operands, this many times
abbrev pub repeated : ℤ → Value → Value → Value → Act Value
repeated n left right (value.Text text) = made_text (repeat (times n) text)
repeated n left right (value.Ref at) = ref_repeated n left right at
repeated n left right held = unsupported op.Times left right

abbrev pub multiplied : Option ℤ → Option ℤ → Value → Value → Act Value
multiplied (Some n) right_number left right = repeated n left right right
multiplied None (Some n) left right = repeated n left right left
multiplied None None left right = unsupported op.Times left right

-- an operator between what isn't two numbers
abbrev pub combined : Op → Value → Value → Act Value
combined op.Plus left right = together left right
combined op.Times left right = multiplied (as_number left) (as_number right) left right
combined o left right = unsupported o left right

abbrev pub operated_by : Op → Option ℤ → Option ℤ → Value → Value → Act Value
operated_by o (Some a) (Some b) left right = calculated o a b
operated_by o _ _ left right = combined o left right

unfoldable pub operated : Op → Value → Value → Act Value
operated o left right = operated_by o (as_number left) (as_number right) left right

-- ---- signs

abbrev pub signed_number : Bool → ℤ → Act Value
signed_number true n = number (neg_ℤ n)
signed_number false n = pure (value.Number n)

unfoldable pub no_sign : Bool → Value → Act Value
no_sign minus held = kind_of held >>= (λ kind. fail (bad_operand minus kind))

abbrev pub signed_by : Bool → Option ℤ → Value → Act Value
signed_by minus (Some n) held = signed_number minus n
signed_by minus None held = no_sign minus held

unfoldable pub signed : Bool → Value → Act Value
signed minus held = signed_by minus (as_number held) held
