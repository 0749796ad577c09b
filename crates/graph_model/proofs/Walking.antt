-- What walks over lists and numbers have seen.
use Rattle.std.proofs.Common.{◌≡◌, ℕ, ◌+◌, ◌<◌, List, length, get_or, sym, subst, inl, inr, arith}
use Rattle.std.specs.Prelude.{Contains}
use Rattle.std.proofs.lemmas.List.{get_or_read}
use Rattle.std.proofs.lemmas.Bool.{cases_lt, cases_order}
use Rattle.flow_model.specs.First.{IsFirst}

-- what fails at each index fails of each element
pub none_contained : {X : Type 0} (P : X → Type 0) (xs : List X) → ((k : ℕ) (d : X) → k < length xs → P (get_or xs k d) → ⊥) → (x : X) → Contains xs x → P x → ⊥
none_contained P xs h x c p = h c.0 x c.1 (subst P (sym c.2) p)

pub none_more : {X : Type 0} (P : X → Type 0) (xs : List X) (i : ℕ) (x : X) → i < length xs → x ≡ get_or xs i x
    → ((k : ℕ) (d : X) → k < i → P (get_or xs k d) → ⊥) → (P x → ⊥) → (k : ℕ) (d : X) → k < i + 1 → P (get_or xs k d) → ⊥
none_more {X} P xs i x l e h n k d m p = elim (cases_lt k i) [
  | inl s ↦ h k d s p
  | inr s ↦
      let same : k ≡ i = omega arith in
      let Q : ℕ → Type 0 = λ j. P (get_or xs j d) in
      n (subst P (sym (get_or_read xs i x l e d)) (subst Q same p))
]

-- a walk over numbers: what fails below i + 1 and at i + 1 fails below i + 2
pub never_more : (P : ℕ → Type 0) (i : ℕ) → ((m : ℕ) → m < i + 1 → P m → ⊥) → (P (i + 1) → ⊥) → (m : ℕ) → m < i + 1 + 1 → P m → ⊥
never_more P i h n m l p = elim (cases_lt m (i + 1)) [
  | inl s ↦ h m s p
  | inr s ↦ let same : m ≡ i + 1 = omega arith in n (subst P same p)
]

pub never_start : (P : ℕ → Type 0) → (P 0 → ⊥) → (m : ℕ) → m < 1 → P m → ⊥
never_start P n m l p = let same : m ≡ 0 = omega arith in n (subst P same p)

-- the same over a list that equals the one walked
pub none_more_in : {X : Type 0} (P : X → Type 0) (xs ys : List X) (i : ℕ) (x : X) → ys ≡ xs → i < length ys → x ≡ get_or ys i x
    → ((k : ℕ) (d : X) → k < i → P (get_or xs k d) → ⊥) → (P x → ⊥) → (k : ℕ) (d : X) → k < i + 1 → P (get_or xs k d) → ⊥
none_more_in {X} P xs ys i x same l e h n =
    let L : List X → Type 0 = λ zs. i < length zs in
    let E : List X → Type 0 = λ zs. x ≡ get_or zs i x in
    none_more P xs i x (subst L same l) (subst E same e) h n

pub first_unique : (P : ℕ → Type 0) (m n : ℕ) → IsFirst P m → IsFirst P n → m ≡ n
first_unique P m n h i = elim (cases_order m n) [
  | inl e ↦ e
  | inr o ↦ elim o [
    | inl l ↦ absurd (i.1 m l h.0)
    | inr l ↦ absurd (h.1 n l i.0)
  ]
]
