-- What a value counts as, and what it weighs; a number for each built-in function.
use Rattle.std.specs.Prelude.{ℕ, zero, suc, ◌+◌, ℤ, pos, negsuc, Bool, true, false, not, length, ◌==◌}
use Rattle.py_value.specs.declared.value.Builtin.{Builtin}
use Rattle.py_value.specs.declared.value.Builtin.TheVariants as builtin
use Rattle.py_value.specs.declared.value.Value.{Value}
use Rattle.py_value.specs.declared.value.Value.TheVariants as value

abbrev pub is_zero : ℤ → Bool
is_zero (pos zero) = true
is_zero (pos (suc n)) = false
is_zero (negsuc n) = false

-- None, False, 0 and the empty text count as false
abbrev pub is_true : Value → Bool
is_true value.Nothing = false
is_true (value.Bool b) = b
is_true (value.Number n) = not (is_zero n)
is_true (value.Text t) = not (length t == 0)
is_true (value.Ref at) = true
is_true (value.Builtin f) = true

-- 1, and 1 more for each byte of a text
abbrev pub weight : Value → ℕ
weight value.Nothing = 1
weight (value.Bool b) = 1
weight (value.Number n) = 1
weight (value.Text t) = 1 + length t
weight (value.Ref at) = 1
weight (value.Builtin f) = 1

-- a number for each built-in function: two are one if their numbers are equal, and a part has it as a byte
abbrev pub builtin_number : Builtin → ℕ
builtin_number builtin.Print = 0
builtin_number builtin.Len = 1
builtin_number builtin.Str = 2
builtin_number builtin.Repr = 3
builtin_number builtin.Int = 4
builtin_number builtin.Range = 5
builtin_number builtin.Draw = 6
builtin_number builtin.Handle = 7
builtin_number builtin.Tell = 8
