-- How many texts there are at the most, and in a list without repeats.
use Rattle.std.proofs.Common.{◌≡◌, ℕ, ◌+◌, ◌<◌, ◌≤◌, List, [], ◌∷◌, ◌++◌, map, length, get_or, take, refl, sym, ap, ◌⊎◌, inl, inr, subst, arith, length-append}
use Rattle.std.specs.Prelude.{Contains}
use Rattle.std.proofs.lemmas.List.Elements.{Contains-append_left, Contains-append_right, Contains-append_cases}
use Rattle.py_laws.proofs.Partners.{none_in, first_in, later_in}
use Rattle.py_machine.specs.Marked.{Name}
use Rattle.graph_model.specs.Faults.{TextBelow, Ascends}
use Rattle.linked_parts.proofs.Lists.{cons_cases, below_on, never_below_itself}
use Rattle.history_graph.specs.Texts.{OneHas, AreAtMost}
use Rattle.history_graph.proofs.Items.{one_more}

-- ---- a list without repeats is no longer than one that has all it has

around : {X : Type 0} (xs : List X) (x : X) → Contains xs x → (front : List X) × (back : List X) × (xs ≡ front ++ x ∷ back)
around [] x h = absurd (none_in x h)
around (y ∷ ys) x h = elim (cons_cases y ys x h) [
  | inl e ↦ ([], ys, ap (λ z. z ∷ ys) e)
  | inr k ↦ let w = around ys x k in (y ∷ w.0, w.1, ap (λ zs. y ∷ zs) w.2)
]

later_ascend : (x : Name) (xs : List Name) → Ascends TextBelow (x ∷ xs) → Ascends TextBelow xs
later_ascend x [] up = tt
later_ascend x (y ∷ xs) up = up.1

all_above : (x : Name) (xs : List Name) → Ascends TextBelow (x ∷ xs) → (z : Name) → Contains xs z → TextBelow x z
all_above x [] up z h = absurd (none_in z h)
all_above x (y ∷ xs) up z h = elim (cons_cases y xs z h) [
  | inl e ↦ subst (λ w. TextBelow x w) e up.0
  | inr k ↦ below_on x y z up.0 (all_above y xs up.1 z k)
]

pub no_longer : (xs ys : List Name) → Ascends TextBelow xs → ((x : Name) → Contains xs x → Contains ys x) → length xs ≤ length ys
no_longer [] ys up has = omega arith
no_longer (x ∷ xs) ys up has =
    let w = around ys x (has x (first_in x xs)) in
    let other : (z : Name) → Contains xs z → Contains (w.0 ++ w.1) z = λ z c. elim (Contains-append_cases w.0 (x ∷ w.1) z (subst (λ zs. Contains zs z) w.2 (has z (later_in x xs z c)))) [
      | inl k ↦ Contains-append_left w.0 w.1 z k
      | inr k ↦ elim (cons_cases x w.1 z k) [
        | inl e ↦ absurd (never_below_itself x (subst (λ y. TextBelow x y) (sym e) (all_above x xs up z c)))
        | inr l ↦ Contains-append_right w.0 w.1 z l
      ]
    ] in
    let rest = no_longer xs (w.0 ++ w.1) (later_ascend x xs up) other in
    let a = length-append w.0 w.1 in
    let b = length-append w.0 (x ∷ w.1) in
    let c = ap (λ (zs : List Name). length zs) w.2 in
    omega (arith, rest, a, b, c)

pub at_most_so_many : (P : Name → Type 0) (n : ℕ) (texts : List Name) → AreAtMost P n → Ascends TextBelow texts → ((t : Name) → Contains texts t → P t) → length texts ≤ n
at_most_so_many P n texts h up are = let l = no_longer texts h.0 up (λ t c. h.1 t (are t c)) in let m = h.2 in omega (arith, l, m)

-- ---- at the most

pub most_of : (P Q : Name → Type 0) (n : ℕ) → ((t : Name) → Q t → P t) → AreAtMost P n → AreAtMost Q n
most_of P Q n all h = (h.0, λ t q. h.1 t (all t q), h.2)

pub most_both : (P Q : Name → Type 0) (m n k : ℕ) → AreAtMost P m → AreAtMost Q n → m + n ≤ k → AreAtMost (λ t. P t ⊎ Q t) k
most_both P Q m n k a b l = (
  a.0 ++ b.0,
  λ t h. elim h [ inl p ↦ Contains-append_left a.0 b.0 t (a.1 t p) | inr q ↦ Contains-append_right a.0 b.0 t (b.1 t q) ],
  let e = length-append a.0 b.0 in
      let c = a.2 in
      let d = b.2 in
      omega (arith, e, c, d, l),
)

pub most_one : (text : Name) → AreAtMost (λ t. t ≡ text) 1
most_one text = (text ∷ [], λ t e. subst (λ z. Contains (text ∷ []) z) (sym e) (first_in text []), omega arith)

module _ {X : Type 0} (f : X → Name) where
  in_map : (xs : List X) (x : X) → Contains xs x → Contains (map f xs) (f x)
  in_map [] x h = absurd (none_in x h)
  in_map (y ∷ ys) x h = elim (cons_cases y ys x h) [
    | inl e ↦ subst (λ z. Contains (map f (y ∷ ys)) (f z)) e (first_in (f y) (map f ys))
    | inr k ↦ later_in (f y) (map f ys) (f x) (in_map ys x k)
  ]

  as_long : (xs : List X) → length (map f xs) ≡ length xs
  as_long [] = refl
  as_long (x ∷ xs) = let e = as_long xs in omega (arith, e)

  -- one for each item
  pub most_items : (P : Name → Type 0) (xs : List X) → ((t : Name) → P t → (x : X) × Contains xs x × (f x ≡ t)) → AreAtMost P (length xs)
  most_items P xs from = (
    map f xs,
    λ t p. let w = from t p in subst (λ z. Contains (map f xs) z) w.2 (in_map xs w.0 w.1),
    let e = as_long xs in omega (arith, e),
  )

-- ---- one item more

module _ {X : Type 0} (HasIt : X → Name → Type 0) where
  pub room_more : (xs : List X) (i : ℕ) (x : X) → i < length xs → x ≡ get_or xs i x → (total room now : ℕ) → AreAtMost (OneHas HasIt (take i xs)) total → AreAtMost (HasIt x) room
      → total + room ≤ now → AreAtMost (OneHas HasIt (take (i + 1) xs)) now
  room_more xs i x l at total room now a b m =
      most_of (λ t. OneHas HasIt (take i xs) t ⊎ HasIt x t) (OneHas HasIt (take (i + 1) xs)) now (one_more HasIt xs i x l at) (most_both (OneHas HasIt (take i xs)) (HasIt x) total room now a b m)
