-- What a `for` goes over, and what comes next. (Python reference: the `for` statement, ranges.)
use Rattle.std.specs.Prelude.{ℕ, ◌+◌, ◌==◌, ℤ, pos, ◌+ℤ◌, Bool, cond, codes, List, [], ◌∷◌, length, slice_get, int_lt, Option, Some, None}
use Rattle.py_value.specs.declared.key.Key.{Key}
use Rattle.py_value.specs.declared.value.Value.{Value}
use Rattle.py_value.specs.declared.value.Value.TheVariants as value
use Rattle.py_value.specs.Keys.{value_of}
use Rattle.py_value.specs.Values.{is_zero}
use Rattle.py_heap.specs.declared.heap.Object.{Object}
use Rattle.py_heap.specs.declared.heap.Object.TheVariants as object
use Rattle.py_machine.specs.declared.iteration.Iteration.{Iteration}
use Rattle.py_machine.specs.declared.iteration.Iteration.TheVariants as iteration
use Rattle.py_machine.specs.Changes.{object_kind}
use Rattle.py_machine.specs.Rests.{first_cut}
use Rattle.py_machine.specs.Errors.{not_iterable, wrong_number, wrong_argument, zero_range_step, changed_size}
use Rattle.py_meaning.specs.Acts.{Act, ◌>>=◌, pure, fail, object_at, kind_of, choose}
use Rattle.py_meaning.specs.Numbers.{fits, as_number}

-- ---- the start

abbrev pub object_iterated : ℕ → Option Object → Act Iteration
object_iterated at (Some (object.List items)) = pure (iteration.Items at 0)
object_iterated at (Some (object.Tuple items)) = pure (iteration.Items at 0)
object_iterated at (Some (object.Dict pairs)) = pure (iteration.Keys at 0 (length pairs))
object_iterated at other = fail (not_iterable (object_kind other))

unfoldable pub not_iterated : Value → Act Iteration
not_iterated held = kind_of held >>= (λ kind. fail (not_iterable kind))

-- a list or a tuple by its items, a dict by its keys, a text by its characters
unfoldable pub iterated : Value → Act Iteration
iterated (value.Text text) = pure (iteration.Characters text)
iterated (value.Ref at) = object_at at >>= object_iterated at
iterated held = not_iterated held

abbrev pub ranged : Option ℤ → Option ℤ → Option ℤ → Act Iteration
ranged (Some start) (Some stop) (Some by) = choose (is_zero by) (fail zero_range_step) (pure (iteration.Range (Some start) stop by))
ranged _ _ _ = fail (wrong_argument (codes "range"))

-- the arguments of `range`: a stop; a start and a stop; or these and a step
abbrev pub range_of : List Value → Act Iteration
range_of (stop ∷ []) = ranged (Some (pos 0)) (as_number stop) (Some (pos 1))
range_of (start ∷ stop ∷ []) = ranged (as_number start) (as_number stop) (Some (pos 1))
range_of (start ∷ stop ∷ by ∷ []) = ranged (as_number start) (as_number stop) (as_number by)
range_of args = fail (wrong_number (codes "range"))

-- ---- what comes next, and what is left after it

abbrev pub Next : Type 0
Next = Option (Value × Iteration)

abbrev pub with_rest : Option Value → Iteration → Next
with_rest (Some held) rest = Some (held, rest)
with_rest None rest = None

-- items that come while the list is gone over are seen
abbrev pub next_item : ℕ → ℕ → Option Object → Act Next
next_item at next (Some (object.List items)) = pure (with_rest (slice_get items next) (iteration.Items at (next + 1)))
next_item at next (Some (object.Tuple items)) = pure (with_rest (slice_get items next) (iteration.Items at (next + 1)))
next_item at next other = pure None

abbrev pub key_in : Option (Key × Value) → Option Value
key_in (Some pair) = Some (value_of pair.0)
key_in None = None

-- the size is tested before the end
abbrev pub next_key : ℕ → ℕ → ℕ → Option Object → Act Next
next_key at next size (Some (object.Dict pairs)) =
    choose (length pairs == size) (pure (with_rest (key_in (slice_get pairs next)) (iteration.Keys at (next + 1) size))) (fail changed_size)
next_key at next size other = pure None

abbrev pub first_in : Option (List ℕ × List ℕ) → Next
first_in (Some cut) = Some (value.Text cut.0, iteration.Characters cut.1)
first_in None = None

-- the first character of what is left of the text
abbrev pub next_character : List ℕ → Next
next_character text = first_in (first_cut text)

-- the number comes before the stop, upwards or downwards
abbrev pub is_before : ℤ → ℤ → ℤ → Bool
is_before n stop by = cond (int_lt (pos 0) by) (int_lt n stop) (int_lt stop n)

-- past 128 bits there is no next number: the stop comes before it
abbrev pub following : ℤ → ℤ → Option ℤ
following n by = cond (fits (n +ℤ by)) (Some (n +ℤ by)) None

abbrev pub next_number : Option ℤ → ℤ → ℤ → Next
next_number None stop by = None
next_number (Some n) stop by = cond (is_before n stop by) (Some (value.Number n, iteration.Range (following n by) stop by)) None

unfoldable pub advance : Iteration → Act Next
advance (iteration.Items at next) = object_at at >>= next_item at next
advance (iteration.Keys at next size) = object_at at >>= next_key at next size
advance (iteration.Characters text) = pure (next_character text)
advance (iteration.Range next stop by) = pure (next_number next stop by)
