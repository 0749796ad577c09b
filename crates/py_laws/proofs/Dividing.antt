-- Floor division gives a quotient and a remainder, and there are no others.
use Rattle.std.proofs.Common.{◌≡◌, ℕ, zero, suc, ◌+◌, ◌*◌, ◌-◌, ◌/◌, ◌%◌, ◌<◌, inl, inr, refl, sym, ap, ◌∙◌, arith}
use Rattle.std.specs.Prelude.{ℤ, pos, negsuc, neg_ℤ, ◌+ℤ◌, ◌*ℤ◌}
use Rattle.std.proofs.Math.Nat.{add-mul}
use Rattle.std.proofs.lemmas.Int.{ints}
use borrow.Author.Differences.{up, down, product_is, same_in}
use Rattle.py_meaning.specs.Numbers.{floor, modulo}
use Rattle.py_laws.specs.Divided.{LiesBetween, IsQuotient}

-- ---- there are these

natural_by_natural : (a b : ℕ) → IsQuotient (pos a) (pos (suc b)) (pos (a / suc b)) (pos (a % suc b))
natural_by_natural a b = record { sum = ap pos (omega arith); between = inl (omega (arith, ints), omega (arith, ints)) }

negative_by_natural : (a b : ℕ) → IsQuotient (negsuc a) (pos (suc b)) (negsuc (a / suc b)) (pos (suc b - suc (a % suc b)))
negative_by_natural a b = record { sum = omega (arith, ints, product_is (negsuc (a / suc b)) (pos (suc b))); between = inl (omega (arith, ints), omega (arith, ints)) }

zero_by_negative : (b : ℕ) → IsQuotient (pos 0) (negsuc b) (pos 0) (pos 0)
zero_by_negative b = record { sum = omega (arith, ints); between = inr (omega (arith, ints), omega (arith, ints)) }

natural_by_negative : (a b : ℕ) → IsQuotient (pos (suc a)) (negsuc b) (negsuc (a / suc b)) (neg_ℤ (pos (b - a % suc b)))
natural_by_negative a b = record { sum = omega (arith, ints, product_is (negsuc (a / suc b)) (negsuc b)); between = inr (omega (arith, ints), omega (arith, ints)) }

negative_by_negative : (a b : ℕ) → IsQuotient (negsuc a) (negsuc b) (pos (suc a / suc b)) (neg_ℤ (pos (suc a % suc b)))
negative_by_negative a b = record { sum = omega (arith, ints, product_is (pos (suc a / suc b)) (negsuc b)); between = inr (omega (arith, ints), omega (arith, ints)) }

pub floor_divides : (a b : ℤ) → (b ≡ pos 0 → ⊥) → IsQuotient a b (floor a b) (modulo a b)
floor_divides a (pos zero) h = absurd (h refl)
floor_divides (pos a) (pos (suc b)) h = natural_by_natural a b
floor_divides (negsuc a) (pos (suc b)) h = negative_by_natural a b
floor_divides (pos zero) (negsuc b) h = zero_by_negative b
floor_divides (pos (suc a)) (negsuc b) h = natural_by_negative a b
floor_divides (negsuc a) (negsuc b) h = negative_by_negative a b

-- ---- there are no others

one_more_time : (n x : ℕ) → suc x * n ≡ x * n + n
one_more_time n x = grind arith

times_agree : (n x y r s : ℕ) → r < n → s < n → x * n + r ≡ y * n + s → x ≡ y
times_agree n zero zero r s h k e = refl
times_agree n zero (suc y) r s h k e = absurd (omega (arith, one_more_time n y))
times_agree n (suc x) zero r s h k e = absurd (omega (arith, one_more_time n x))
times_agree n (suc x) (suc y) r s h k e = ap suc (times_agree n x y r s h k (omega (arith, one_more_time n x, one_more_time n y)))

by_natural : (a q p : ℤ) (n r s : ℕ) → r < n → s < n → a ≡ (q *ℤ pos n) +ℤ pos r → a ≡ (p *ℤ pos n) +ℤ pos s → q ≡ p
by_natural a q p n r s h k e f =
    same_in q p (times_agree n (up q + down p) (up p + down q) r s h k (omega (arith, ints, product_is q (pos n), product_is p (pos n), add-mul (up q) (down p) n, add-mul (up p) (down q) n)))

by_negative : (a q p : ℤ) (n r s : ℕ) → r < suc n → s < suc n → a ≡ (q *ℤ negsuc n) +ℤ neg_ℤ (pos r) → a ≡ (p *ℤ negsuc n) +ℤ neg_ℤ (pos s) → q ≡ p
by_negative a q p n r s h k e f =
    same_in q p (times_agree (suc n) (up q + down p) (up p + down q) r s h k (omega (arith, ints, product_is q (negsuc n), product_is p (negsuc n), add-mul (up q) (down p) (suc n), add-mul (up p) (down q) (suc n))))

natural_rest : (r : ℤ) (n : ℕ) → LiesBetween r (pos n) → (m : ℕ) × (r ≡ pos m) × (m < n)
natural_rest (pos m) n (inl h) = (m, refl, omega (arith, ints, h.1))
natural_rest (negsuc m) n (inl h) = absurd (omega (arith, ints, h.0))
natural_rest r n (inr h) = absurd (omega (arith, ints, h.0, h.1))

negative_rest : (r : ℤ) (n : ℕ) → LiesBetween r (negsuc n) → (m : ℕ) × (r ≡ neg_ℤ (pos m)) × (m < suc n)
negative_rest r n (inl h) = absurd (omega (arith, ints, h.0, h.1))
negative_rest (pos m) n (inr h) = (0, omega (arith, ints, h.1), omega arith)
negative_rest (negsuc m) n (inr h) = (suc m, refl, omega (arith, ints, h.0))

one_quotient : (a b q r p s : ℤ) → IsQuotient a b q r → IsQuotient a b p s → q ≡ p
one_quotient a (pos n) q r p s h k =
    let x = natural_rest r n h.between in
    let y = natural_rest s n k.between in
    by_natural a q p n x.0 y.0 x.2 y.2 (rw x.1 at h.sum) (rw y.1 at k.sum)
one_quotient a (negsuc n) q r p s h k =
    let x = negative_rest r n h.between in
    let y = negative_rest s n k.between in
    by_negative a q p n x.0 y.0 x.2 y.2 (rw x.1 at h.sum) (rw y.1 at k.sum)

one_pair : (a b q r p s : ℤ) → IsQuotient a b q r → IsQuotient a b p s → (q ≡ p) × (r ≡ s)
one_pair a b q r p s h k =
    let e = one_quotient a b q r p s h k in
    let f : (q *ℤ b) +ℤ r ≡ (q *ℤ b) +ℤ s = sym h.sum ∙ (k.sum ∙ ap (λ (x : ℤ). (x *ℤ b) +ℤ s) (sym e)) in
    (e, omega (arith, ints, f))

-- what has a remainder isn't 0
not_zero : (r b : ℤ) → LiesBetween r b → b ≡ pos 0 → ⊥
not_zero r (pos zero) h e = let m = natural_rest r 0 h in omega (arith, m.2)
not_zero r (pos (suc b)) h e = omega (arith, ints, e)
not_zero r (negsuc b) h e = omega (arith, ints, e)

pub alone : (a b q r : ℤ) → IsQuotient a b q r → (q ≡ floor a b) × (r ≡ modulo a b)
alone a b q r h = one_pair a b q r (floor a b) (modulo a b) h (floor_divides a b (not_zero r b h.between))
