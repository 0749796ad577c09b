-- Where a text is cut.
use Rattle.std.proofs.Common.{◌≡◌, ℕ, zero, suc, ◌<◌, ◌≤◌, true, false, ◌||◌, cond, List, length, ap, sym, ◌∙◌, arith, subst, ◌⊎◌, inl, inr, leb}
use Rattle.std.specs.Prelude.{nat_lt, nat_le, slice_index}
use Rattle.std.specs.Str.{IsCharBoundary}
use Rattle.std.proofs.lemmas.Bool.{le-leb, and_from, and_left, and_right}
use Rattle.std.proofs.lemmas.List.{get_or_past}
use Rattle.std.proofs.lemmas.Bool.Decides.{nat_tests, leb_tells}
use Rattle.plain_data.specs.Cuts.{is_between, cut_within}

-- what a byte that begins no character is
between_byte : (b : ℕ) → (128 ≤ b → 192 ≤ b) → (nat_lt b 128 || nat_le 192 b) ≡ true
between_byte b h = grind (arith, nat_tests)

inside_byte : (b : ℕ) → ((128 ≤ b → 192 ≤ b) → ⊥) → (nat_lt b 128 || nat_le 192 b) ≡ false
inside_byte b h = grind (arith, nat_tests)

pub between_from : (text : List ℕ) (n : ℕ) → IsCharBoundary text n → is_between text n ≡ true
between_from text n h = and_from _ _ (le-leb n (length text) h.0) (at_end (leb_tells (suc n) (length text)))
  where
    at_end : ((leb (suc n) (length text) ≡ true) × (suc n ≤ length text)) ⊎ ((leb (suc n) (length text) ≡ false) × (length text < suc n))
        → (nat_lt (slice_index text n) 128 || nat_le 192 (slice_index text n)) ≡ true
    at_end (inl inside) = between_byte (slice_index text n) (h.1 (omega (arith, inside.1)))
    at_end (inr past) = between_byte (slice_index text n) (λ high. absurd (let none : slice_index text n ≡ 0 = get_or_past text n 0 (omega (arith, past.1)) in omega arith))

between_not : (text : List ℕ) (n : ℕ) → (IsCharBoundary text n → ⊥) → is_between text n ≡ false
between_not text n h = cases (leb_tells n (length text))
  where
    cases : ((leb n (length text) ≡ true) × (n ≤ length text)) ⊎ ((leb n (length text) ≡ false) × (length text < n)) → is_between text n ≡ false
    cases (inl within) = and_right _ _ (inside_byte (slice_index text n) (λ begins. h (within.1, λ _. begins)))
    cases (inr past) = and_left _ _ past.0

cut_step : (n kept : ℕ) (text : List ℕ) → kept ≤ suc n → IsCharBoundary text kept → ((j : ℕ) → kept < j → j ≤ suc n → IsCharBoundary text j → ⊥)
    → (kept ≤ n → cut_within n text ≡ kept)
    → ((leb kept n ≡ true) × (kept ≤ n)) ⊎ ((leb kept n ≡ false) × (n < kept)) → cond (is_between text (suc n)) (suc n) (cut_within n text) ≡ kept
cut_step n kept text within at none again (inl below) =
    ap (λ b. cond b (suc n) (cut_within n text)) (between_not text (suc n) (none (suc n) (omega (arith, below.1)) (omega arith))) ∙ again below.1
cut_step n kept text within at none again (inr above) =
    let same : kept ≡ suc n = omega (arith, above.1) in
    ap (λ b. cond b (suc n) (cut_within n text)) (between_from text (suc n) (subst (IsCharBoundary text) same at)) ∙ sym same

pub cut_within-is : (most kept : ℕ) (text : List ℕ) → kept ≤ most → IsCharBoundary text kept → ((j : ℕ) → kept < j → j ≤ most → IsCharBoundary text j → ⊥)
    → cut_within most text ≡ kept
unfolding cut_within
cut_within-is zero kept text within at none = omega arith
cut_within-is (suc n) kept text within at none =
    cut_step n kept text within at none (λ below. cut_within-is n kept text below at (λ j above near here. none j above (omega arith) here)) (leb_tells kept n)
