-- What floor division gives: a quotient and a remainder. (Python reference: binary arithmetic operations.)
use Rattle.std.specs.Prelude.{◌≡◌, ◌⊎◌, ℤ, pos, ◌+ℤ◌, ◌*ℤ◌, ◌<ℤ◌, ◌≤ℤ◌}

-- r lies between 0 and b: it may be 0 and isn't b, so it is 0 or has b's sign
abbrev pub LiesBetween : ℤ → ℤ → Type 0
LiesBetween r b = ((pos 0 ≤ℤ r) × (r <ℤ b)) ⊎ ((b <ℤ r) × (r ≤ℤ pos 0))

-- a is q times b and then r
pub record IsQuotient (a b q r : ℤ) : Type 0 where
  pub sum : a ≡ (q *ℤ b) +ℤ r
  pub between : LiesBetween r b
