-- Whether a number is among numbers.
use Rattle.std.proofs.Common.{◌≡◌, ℕ, zero, suc, ◌+◌, ◌<◌, ◌⊎◌, List, [], ◌∷◌, length, get_or, inl, inr, refl, subst, arith}
use Rattle.std.specs.Prelude.{Contains}
use Rattle.std.proofs.lemmas.Bool.{cases_eq, cases_lt}
use Rattle.std.proofs.lemmas.List.{get_or_default}

pub contains-tail : {X : Type 0} (x : X) (xs : List X) (n : X) → Contains xs n → Contains (x ∷ xs) n
contains-tail x xs n c = (suc c.0, (let l : c.0 < length xs = c.1 in omega arith), c.2)

pub contains-head : {X : Type 0} (x : X) (xs : List X) → Contains (x ∷ xs) x
contains-head x xs = (0, omega arith, refl)

pub contains-cases : {X : Type 0} (x : X) (xs : List X) (n : X) → Contains (x ∷ xs) n → (x ≡ n) ⊎ Contains xs n
contains-cases {X} x xs n c = go c.0 c.1 c.2
  where
    go : (k : ℕ) → k < length (x ∷ xs) → get_or (x ∷ xs) k n ≡ n → (x ≡ n) ⊎ Contains xs n
    go zero l e = inl e
    go (suc k) l e = inr (k, omega arith, e)

pub contains-nil : {X : Type 0} (n : X) → Contains {X = X} [] n → ⊥
contains-nil n c = let l : c.0 < 0 = c.1 in omega arith

pub decided : (xs : List ℕ) (n : ℕ) → Contains xs n ⊎ (Contains xs n → ⊥)
decided [] n = inr (contains-nil n)
decided (x ∷ xs) n = elim (cases_eq x n) [
  | inl e ↦ let P : ℕ → Type 0 = λ m. Contains (x ∷ xs) m in inl (subst P e (contains-head x xs))
  | inr d ↦ elim (decided xs n) [
    | inl c ↦ inl (contains-tail x xs n c)
    | inr h ↦ inr (λ c. elim (contains-cases x xs n c) [ inl e ↦ d e | inr k ↦ h k ])
  ]
]

-- what holds at each index holds of each number
pub all_contained : (P : ℕ → Type 0) (xs : List ℕ) → ((k d : ℕ) → k < length xs → P (get_or xs k d)) → (n : ℕ) → Contains xs n → P n
all_contained P xs h n c = subst P c.2 (h c.0 n c.1)

pub all_more : (P : ℕ → Type 0) (xs : List ℕ) (i : ℕ) → i < length xs → ((k d : ℕ) → k < i → P (get_or xs k d)) → P (get_or xs i 0) → (k d : ℕ) → k < i + 1 → P (get_or xs k d)
all_more P xs i l h p k d m = elim (cases_lt k i) [
  | inl s ↦ h k d s
  | inr s ↦
      let same : i ≡ k = omega arith in
      let Q : ℕ → Type 0 = λ j. P (get_or xs j d) in
      subst Q same (subst P (get_or_default xs i 0 d l) p)
]
