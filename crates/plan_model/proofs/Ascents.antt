-- Numbers that ascend.
use Rattle.std.proofs.Common.{◌≡◌, ℕ, zero, suc, ◌<◌, ◌≤◌, ◌↔◌, Bool, List, [], ◌∷◌, length, get_or, Ok, Err, Result, refl, sym, ◌∙◌, subst, inl, inr, arith}
use Rattle.std.specs.Prelude.{Contains, IsTrue}
use Rattle.std.specs.Result.{is_ok}
use Rattle.std.specs.Ordering.{nat_cmp}
use Rattle.std.specs.List.Sorted.{IsBinarySearchResult}
use Rattle.std.proofs.lemmas.List.{get_or_default}
use Rattle.std.proofs.lemmas.List.Sorted.{searched}
use Rattle.std.proofs.lemmas.Bool.{false≢true, cases_lt}
use Rattle.graph_model.specs.Faults.{Ascends}

abbrev pub Rises : List ℕ → Type 0
Rises = Ascends (λ m n. m < n)

pub rises-tail : (x : ℕ) (xs : List ℕ) → Rises (x ∷ xs) → Rises xs
rises-tail x [] h = tt
rises-tail x (y ∷ ys) h = h.1

-- the first of them is below the others
pub rises-head : (x : ℕ) (xs : List ℕ) → Rises (x ∷ xs) → (k d : ℕ) → k < length xs → x < get_or xs k d
rises-head x [] h k d l = absurd (omega arith)
rises-head x (y ∷ ys) h zero d l = h.0
rises-head x (y ∷ ys) h (suc k) d l = let r = rises-head y ys h.1 k d (omega arith) in let s : x < y = h.0 in omega arith

pub rises-at : (xs : List ℕ) → Rises xs → (i j d : ℕ) → i < j → j < length xs → get_or xs i d < get_or xs j d
rises-at [] h i j d l m = absurd (omega arith)
rises-at (x ∷ xs) h i zero d l m = absurd (omega arith)
rises-at (x ∷ xs) h zero (suc j) d l m = rises-head x xs h j d (omega arith)
rises-at (x ∷ xs) h (suc i) (suc j) d l m = rises-at xs (rises-tail x xs h) i j d (omega arith) (omega arith)

pub rises-upto : (xs : List ℕ) → Rises xs → (i j : ℕ) → i ≤ j → j < length xs → get_or xs i 0 ≤ get_or xs j 0
rises-upto xs h i j l m = elim (cases_lt i j) [
  | inl s ↦ let r = rises-at xs h i j 0 s m in omega arith
  | inr s ↦ let e : i ≡ j = omega arith in let P : ℕ → Type 0 = λ k. get_or xs i 0 ≤ get_or xs k 0 in subst P e (omega arith)
]

found : (xs : List ℕ) (x : ℕ) (r : Result ℕ ℕ) → Rises xs → IsBinarySearchResult (λ y. nat_cmp y x) xs r → (IsTrue (is_ok r) → Contains xs x) × (Contains xs x → IsTrue (is_ok r))
found xs x (Ok i) h b =
    let s = searched xs x (Ok i) b (rises-upto xs h) in
    (λ t. (i, s.0, get_or_default xs i x 0 s.0 ∙ s.1), λ c. refl)
found xs x (Err i) h b =
    let s = searched xs x (Err i) b (rises-upto xs h) in (
      λ t. absurd (false≢true t),
      λ c. let l : c.0 < length xs = c.1 in
          let e = get_or_default xs c.0 0 x l ∙ c.2 in
          absurd (elim (cases_lt c.0 i) [
            | inl a ↦ let k = s.1 c.0 a in omega arith
            | inr a ↦ let k = s.2 c.0 a l in omega arith
          ]),
    )

-- a binary search tells whether a number is among numbers that ascend
pub found_contained : (xs : List ℕ) (x : ℕ) (r : Result ℕ ℕ) → Rises xs → IsBinarySearchResult (λ y. nat_cmp y x) xs r → (b : Bool) → b ≡ is_ok r → IsTrue b ↔ Contains xs x
found_contained xs x r h s b e =
    let f = found xs x r h s in
    let P : Bool → Type 0 = λ t. IsTrue t ↔ Contains xs x in
    subst P (sym e) (f.0, f.1)
