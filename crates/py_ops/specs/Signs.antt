-- A number by its sign.
use Rattle.std.specs.Prelude.{ℕ, ℤ, pos, negsuc}
use Rattle.py_ops.specs.declared.signs.Signed.{Signed}
use Rattle.py_ops.specs.declared.signs.Signed.TheVariants as signed

-- the number that it is
abbrev pub number_of : Signed → ℤ
number_of (signed.Natural n) = pos n
number_of (signed.Negative n) = negsuc n

abbrev pub size_of : Signed → ℕ
size_of (signed.Natural n) = n
size_of (signed.Negative n) = n
