-- A number of digits only grows with each digit.
use Rattle.std.proofs.Common.{◌≡◌, ℕ, ◌+◌, ◌-◌, ◌*◌, ◌<◌, ◌≤◌, ◌^◌, cond, List, [], ◌∷◌, Some, None, ap, arith}
use Rattle.std.proofs.lemmas.Bool.{lt-leb}
use Rattle.py_value.specs.Numbers.{decimal_from, up_to_limit}

pub decimal_from-grows : (n : ℕ) (cs : List ℕ) → n ≤ decimal_from n cs
unfolding decimal_from
decimal_from-grows n [] = omega arith
decimal_from-grows n (c ∷ cs) = omega (arith, decimal_from-grows (n * 10 + (c - 48)) cs)

past_limit : (n : ℕ) → 2 ^ 127 < n → up_to_limit n ≡ None
past_limit n h = ap (λ b. cond b (Some n) None) (lt-leb n (2 ^ 127) h)

-- a digit that leads past the limit
pub too_large : (n c : ℕ) (cs : List ℕ) → (n * 10 + (c - 48) ≤ 2 ^ 127 → ⊥) → up_to_limit (decimal_from n (c ∷ cs)) ≡ None
unfolding decimal_from
too_large n c cs past = past_limit _ (omega (arith, decimal_from-grows (n * 10 + (c - 48)) cs))
