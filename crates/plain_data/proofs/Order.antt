-- The order of two lists by their first numbers that differ.
use Rattle.std.proofs.Common.{◌≡◌, ◌<◌, ◌≤◌, ◌-◌, ℕ, List, [], ◌∷◌, length, take, drop, slice_index_or, refl, sym, ap, ◌∙◌}
use Rattle.std.specs.Ordering.{nat_cmp, ordering_then, MatchOrdering}
use Rattle.std.specs.declared.cmp.Ordering.{Ordering}
use Rattle.std.specs.declared.cmp.Ordering.TheVariants.{Less, Equal, Greater}
use Rattle.std.specs.Cmp.{nat_cmp_is, ranks}
use Rattle.std.specs.Cmp.Lexicographic.{slice_cmp}
use Rattle.std.proofs.Math.Seq.{take-length}
use native.Mathlib.Omega.{arith}

tied : (x y : ℕ) → x ≡ y → nat_cmp x y ≡ Equal
tied x y e = sym (nat_cmp_is x y Equal e)

-- numbers at the front that are equal decide nothing
pub stepped : (xs ys : List ℕ) → 1 ≤ length xs → 1 ≤ length ys → slice_index_or xs 0 0 ≡ slice_index_or ys 0 0
    → slice_cmp nat_cmp (take (length xs - 1) (drop 1 xs)) (take (length ys - 1) (drop 1 ys)) ≡ slice_cmp nat_cmp xs ys
stepped [] ys h k e = absurd (omega arith)
stepped (x ∷ xs) [] h k e = absurd (omega arith)
stepped (x ∷ xs) (y ∷ ys) h k e =
    let n : length (x ∷ xs) - 1 ≡ length xs = omega arith in
    let m : length (y ∷ ys) - 1 ≡ length ys = omega arith in
    (λ i. slice_cmp nat_cmp (take (n i) xs) (take (m i) ys)) ∙ (λ i. slice_cmp nat_cmp (take-length xs i) (take-length ys i)) ∙ sym (ap (λ r. ordering_then r (slice_cmp nat_cmp xs ys)) (tied x y e))

apart : (x y : ℕ) (s : Ordering) → (x ≡ y → ⊥) → (r : Ordering) → MatchOrdering r (x < y) (x ≡ y) (y < x) → r ≡ ordering_then r s
apart x y s n Less m = refl
apart x y s n Equal m = absurd (n m)
apart x y s n Greater m = refl

-- and numbers that aren't decide
pub decided : (xs ys : List ℕ) → 1 ≤ length xs → 1 ≤ length ys → (slice_index_or xs 0 0 ≡ slice_index_or ys 0 0 → ⊥)
    → nat_cmp (slice_index_or xs 0 0) (slice_index_or ys 0 0) ≡ slice_cmp nat_cmp xs ys
decided [] ys h k n = absurd (omega arith)
decided (x ∷ xs) [] h k n = absurd (omega arith)
decided (x ∷ xs) (y ∷ ys) h k n = apart x y (slice_cmp nat_cmp xs ys) n (nat_cmp x y) (ranks x y)
