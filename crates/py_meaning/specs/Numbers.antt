-- Arithmetic on numbers of 128 bits. (Python reference: unary and binary arithmetic operations.)
use Rattle.std.specs.Prelude.{zero, suc, ◌-◌, ◌/◌, ◌%◌, ◌^◌, ℤ, pos, negsuc, neg_ℤ, ◌+ℤ◌, ◌-ℤ◌, ◌*ℤ◌, Bool, true, false, nat_lt, Option, Some, None}
use Rattle.py_tree.specs.declared.expressions.Op.{Op}
use Rattle.py_tree.specs.declared.expressions.Op.TheVariants as op
use Rattle.py_value.specs.declared.value.Value.{Value}
use Rattle.py_value.specs.declared.value.Value.TheVariants as value
use Rattle.py_value.specs.Values.{is_zero}
use Rattle.py_machine.specs.declared.kind.ValueKind.TheVariants as kind
use Rattle.py_machine.specs.Errors.{overflow_error, division_error, unsupported_operands}
use Rattle.py_meaning.specs.Acts.{Act, pure, fail, choose}

-- numbers end at 128 bits
abbrev pub fits : ℤ → Bool
fits (pos n) = nat_lt n (2 ^ 127)
fits (negsuc n) = nat_lt n (2 ^ 127)

unfoldable pub number : ℤ → Act Value
number n = choose (fits n) (pure (value.Number n)) (fail overflow_error)

-- the number that a value acts as: True is 1 and False is 0
abbrev pub as_number : Value → Option ℤ
as_number (value.Number n) = Some n
as_number (value.Bool true) = Some (pos 1)
as_number (value.Bool false) = Some (pos 0)
as_number value.Nothing = None
as_number (value.Text text) = None
as_number (value.Ref at) = None
as_number (value.Builtin builtin) = None

-- the quotient rounded down, by a divisor that isn't 0
abbrev pub floor : ℤ → ℤ → ℤ
floor (pos a) (pos b) = pos (a / b)
floor (negsuc a) (pos b) = negsuc (a / b)
floor (pos zero) (negsuc b) = pos 0
floor (pos (suc a)) (negsuc b) = negsuc (a / suc b)
floor (negsuc a) (negsuc b) = pos (suc a / suc b)

-- what is left then: it has the divisor's sign
abbrev pub modulo : ℤ → ℤ → ℤ
modulo (pos a) (pos b) = pos (a % b)
modulo (negsuc a) (pos b) = pos (b - suc (a % b))
modulo (pos zero) (negsuc b) = pos 0
modulo (pos (suc a)) (negsuc b) = neg_ℤ (pos (b - a % suc b))
modulo (negsuc a) (negsuc b) = neg_ℤ (pos (suc a % suc b))

unfoldable pub quotient : ℤ → ℤ → Act Value
quotient a b = choose (is_zero b) (fail division_error) (number (floor a b))

unfoldable pub remainder : ℤ → ℤ → Act Value
remainder a b = choose (is_zero b) (fail division_error) (number (modulo a b))

-- an operator between numbers; a comparison is none
abbrev pub calculated : Op → ℤ → ℤ → Act Value
calculated op.Plus a b = number (a +ℤ b)
calculated op.Minus a b = number (a -ℤ b)
calculated op.Times a b = number (a *ℤ b)
calculated op.Floor a b = quotient a b
calculated op.Mod a b = remainder a b
calculated o a b = fail (unsupported_operands o kind.Number kind.Number)
