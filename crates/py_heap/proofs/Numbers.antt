-- Lists of numbers: which numbers they have, and where each comes first.
use Rattle.std.proofs.Common.{◌≡◌, ◌≢◌, ℕ, zero, suc, ◌<◌, ◌≤◌, ◌==◌, ◌||◌, ◌&&◌, not, Bool, true, false, List, [], ◌∷◌, ◌++◌, length, get_or, take, drop, refl, sym, ap, ◌∙◌, subst, inl, inr, arith}
use Rattle.std.specs.Prelude.{Contains, All, AllPairs, filter}
use Rattle.std.specs.List.{flat_map}
use Rattle.std.proofs.lemmas.Bool.{false≢true, cases_eq, cases_lt, cases_Bool, eqb-true, eq-eqb, ne_eqb, or_cases, or_left, or_right}
use Rattle.std.proofs.lemmas.List.{get_or_past, append-nil, append_assoc, length-append, take-append-le, take-append-drop}
use Rattle.std.proofs.lemmas.List.Elements.{All-head, All-tail, All-cons, All-nil, All-push, All-append, filter_agree}
use Rattle.std.proofs.lemmas.List.Quantifiers.{all_pairs_push}
use Rattle.std.proofs.lemmas.List.Folds.{list_any_at, list_any-append}
use Rattle.std.proofs.lemmas.Grind.{fold-append}
use Rattle.py_heap.specs.Searches.{has, noted, all_noted, IsMarkedAs}
use Rattle.py_heap.specs.Reaching.{firsts}

-- ---- which numbers a list has

pub has_at : (ns : List ℕ) (i d : ℕ) → i < length ns → has ns (get_or ns i d) ≡ true
has_at ns i d l = list_any_at (λ m. m == get_or ns i d) ns i d l (eq-eqb _ _ refl)

pub has_of_contains : (ns : List ℕ) (n : ℕ) → Contains ns n → has ns n ≡ true
has_of_contains ns n c = subst (λ m. has ns m ≡ true) c.2 (has_at ns c.0 n c.1)

pub contains_of_has : (ns : List ℕ) (n : ℕ) → has ns n ≡ true → Contains ns n
contains_of_has [] n h = absurd (false≢true h)
contains_of_has (m ∷ ns) n h = elim (or_cases (m == n) (has ns n) h) [
  | inl e ↦ (0, omega arith, eqb-true m n e)
  | inr k ↦ let c = contains_of_has ns n k in (suc c.0, let l : c.0 < length ns = c.1 in omega arith, c.2)
]

pub has-append : (ms ns : List ℕ) (n : ℕ) → has (ms ++ ns) n ≡ (has ms n || has ns n)
has-append ms ns n = list_any-append (λ m. m == n) ms ns

-- each number of the list is below the number of marks
pub marked_room : (marks : List Bool) (ns : List ℕ) → IsMarkedAs marks ns → (i : ℕ) → i < length ns → get_or ns i 0 < length marks
marked_room marks ns m i l =
    let n = get_or ns i 0 in
    elim (cases_lt n (length marks)) [
      | inl k ↦ k
      | inr k ↦ absurd (false≢true (sym (get_or_past marks n false k) ∙ (m n ∙ has_at ns i 0 l)))
    ]

-- ---- what holds of each number of joined lists

All-append_left : {X : Type 0} (P : X → Type 0) (xs ys : List X) → All P (xs ++ ys) → All P xs
All-append_left P [] ys a = All-nil P
All-append_left P (x ∷ xs) ys a = All-cons P x xs (All-head P x (xs ++ ys) a) (All-append_left P xs ys (All-tail P x (xs ++ ys) a))

All-append_right : {X : Type 0} (P : X → Type 0) (xs ys : List X) → All P (xs ++ ys) → All P ys
All-append_right P [] ys a = a
All-append_right P (x ∷ xs) ys a = All-append_right P xs ys (All-tail P x (xs ++ ys) a)

pub All-flat_map_at : {X : Type 0} (P : ℕ → Type 0) (f : X → List ℕ) (xs : List X) (i : ℕ) (d : X) → i < length xs → All P (flat_map f xs) → All P (f (get_or xs i d))
All-flat_map_at P f [] i d l a = absurd (omega arith)
All-flat_map_at P f (x ∷ xs) zero d l a = All-append_left P (f x) (flat_map f xs) a
All-flat_map_at P f (x ∷ xs) (suc i) d l a = All-flat_map_at P f xs i d (omega arith) (All-append_right P (f x) (flat_map f xs) a)

-- ---- each number where it comes first

module _ {X : Type 0} where
  filter-filter : (p q : X → Bool) (xs : List X) → filter p (filter q xs) ≡ filter (λ x. q x && p x) xs
  filter-filter p q [] = refl
  filter-filter p q (x ∷ xs) =
      let r = filter-filter p q xs in
      elim (cases_Bool (q x)) [
        | inl e ↦ rw (e, r) refl
        | inr e ↦ rw (e, r) refl
      ]

  filter_all : (p : X → Bool) (xs : List X) → ((x : X) → p x ≡ true) → filter p xs ≡ xs
  filter_all p [] h = refl
  filter_all p (x ∷ xs) h = rw (h x) (ap (λ ys. x ∷ ys) (filter_all p xs h))

same_test : (m n : ℕ) → (m == n) ≡ (n == m)
same_test m n = elim (cases_eq m n) [
  | inl e ↦ eq-eqb m n e ∙ sym (eq-eqb n m (sym e))
  | inr d ↦ ne_eqb m n d ∙ sym (ne_eqb n m (λ e. d (sym e)))
]

neither : (a b : Bool) → not (a || (b || false)) ≡ (not b && not a)
neither true true = refl
neither true false = refl
neither false true = refl
neither false false = refl

-- n is in the list of those that pass p if it passes p and was in the list
has-filter : (p : ℕ → Bool) (ns : List ℕ) (n : ℕ) → has (filter p ns) n ≡ (p n && has ns n)
has-filter p [] n = elim (cases_Bool (p n)) [ inl e ↦ rw e refl | inr e ↦ rw e refl ]
has-filter p (m ∷ ns) n =
    let r = has-filter p ns n in
    elim (cases_eq m n) [
      | inl e ↦
          let same : p m ≡ p n = ap p e in
          elim (cases_Bool (p n)) [
            | inl t ↦ rw (same, t, eq-eqb m n e) refl
            | inr f ↦ rw (same, f) (r ∙ rw f refl)
          ]
      | inr d ↦ elim (cases_Bool (p m)) [
        | inl t ↦ rw (t, ne_eqb m n d) r
        | inr f ↦ rw (f, ne_eqb m n d) r
      ]
    ]

pub has-firsts : (ns : List ℕ) (n : ℕ) → has (firsts ns) n ≡ has ns n
has-firsts [] n = refl
has-firsts (m ∷ ns) n =
    let r = has-firsts ns n in
    elim (cases_eq m n) [
      | inl e ↦ rw (eq-eqb m n e) refl
      | inr d ↦ ap (λ b. (m == n) || b) (has-filter (λ k. not (k == m)) (firsts ns) n ∙ rw (ne_eqb n m (λ e. d (sym e))) r)
    ]

-- what is noted after a list: each number that it lacks, where it comes first
pub all_noted_is : (acc ns : List ℕ) → all_noted acc ns ≡ acc ++ filter (λ m. not (has acc m)) (firsts ns)
all_noted_is acc [] = sym (append-nil acc)
all_noted_is acc (n ∷ ns) =
    let p : ℕ → Bool = λ m. not (has acc m) in
    let q : ℕ → Bool = λ m. not (m == n) in
    elim (cases_Bool (has acc n)) [
      | inl e ↦
          let agree : (m : ℕ) → (q m && p m) ≡ p m = λ m. elim (cases_eq m n) [
            | inl s ↦ rw (s, e, eq-eqb n n refl) refl
            | inr d ↦ rw (ne_eqb m n d) refl
          ] in
          rw e (all_noted_is acc ns ∙ ap (λ ms. acc ++ ms) (sym (filter-filter p q (firsts ns) ∙ filter_agree _ _ agree (firsts ns))))
      | inr e ↦
          let r : ℕ → Bool = λ m. not (has (acc ++ n ∷ []) m) in
          let agree : (m : ℕ) → r m ≡ (q m && p m) = λ m. ap not (has-append acc (n ∷ []) m)
          ∙ (neither (has acc m) (n == m) ∙ ap (λ b. not b && not (has acc m)) (same_test n m)) in
          rw e (all_noted_is (acc ++ n ∷ []) ns ∙ (append_assoc acc (n ∷ []) (filter r (firsts ns))
          ∙ ap (λ ms. acc ++ n ∷ ms) (filter_agree _ _ agree (firsts ns) ∙ sym (filter-filter p q (firsts ns)))))
    ]

pub firsts_are : (ns : List ℕ) → all_noted [] ns ≡ firsts ns
firsts_are ns = all_noted_is [] ns ∙ filter_all _ (firsts ns) (λ m. refl)

-- noting puts numbers after the list
pub front_stays : (acc ns : List ℕ) (i : ℕ) → i ≤ length acc → (take i (all_noted acc ns) ≡ take i acc) × (length acc ≤ length (all_noted acc ns))
front_stays acc ns i l =
    let more = filter (λ m. not (has acc m)) (firsts ns) in
    let e = all_noted_is acc ns in
    let n = length-append acc more in
    rw e (take-append-le i acc more l, omega arith)

all_kept : (P : ℕ → Type 0) (acc : List ℕ) (n : ℕ) → All P acc → P n → All P (noted acc n)
all_kept P acc n a h = elim (cases_Bool (has acc n)) [
  | inl e ↦ rw e a
  | inr e ↦ rw e (All-push P acc n a h)
]

-- noting keeps what holds of each number
pub All-all_noted : (P : ℕ → Type 0) (acc ns : List ℕ) → All P acc → All P ns → All P (all_noted acc ns)
All-all_noted P acc [] a b = a
All-all_noted P acc (n ∷ ns) a b = All-all_noted P (noted acc n) ns (all_kept P acc n a (All-head P n ns b)) (All-tail P n ns b)

still_apart : (acc : List ℕ) (n : ℕ) → AllPairs (λ a b. a ≢ b) acc → AllPairs (λ a b. a ≢ b) (noted acc n)
still_apart acc n a = elim (cases_Bool (has acc n)) [
  | inl e ↦ rw e a
  | inr e ↦ rw e (all_pairs_push (λ a b. a ≢ b) acc n a
      (λ k d l s. false≢true (sym e ∙ (ap (has acc) (sym s) ∙ has_at acc k d l))))
]

-- noting keeps the numbers of a list apart
apart : (acc ns : List ℕ) → AllPairs (λ a b. a ≢ b) acc → AllPairs (λ a b. a ≢ b) (all_noted acc ns)
apart acc [] a = a
apart acc (n ∷ ns) a = apart (noted acc n) ns (still_apart acc n a)

-- ---- lists joined

pub All-flat_map : {X : Type 0} (P : ℕ → Type 0) (f : X → List ℕ) (xs : List X) → ((x : X) → Contains xs x → All P (f x)) → All P (flat_map f xs)
All-flat_map P f [] h = All-nil P
All-flat_map P f (x ∷ xs) h = All-append P (f x) (flat_map f xs) (h x (0, omega arith, refl))
    (All-flat_map P f xs (λ y c. let l : c.0 < length xs = c.1 in h y (suc c.0, omega arith, c.2)))

has-flat_map_at : {X : Type 0} (f : X → List ℕ) (xs : List X) (n i : ℕ) (d : X) → i < length xs → has (f (get_or xs i d)) n ≡ true → has (flat_map f xs) n ≡ true
has-flat_map_at f [] n i d l h = absurd (omega arith)
has-flat_map_at f (x ∷ xs) n zero d l h = has-append (f x) (flat_map f xs) n ∙ or_left _ _ h
has-flat_map_at f (x ∷ xs) n (suc i) d l h = has-append (f x) (flat_map f xs) n ∙ or_right _ _ (has-flat_map_at f xs n i d (omega arith) h)

pub has-flat_map : {X : Type 0} (f : X → List ℕ) (xs : List X) (n : ℕ) (x : X) → Contains xs x → has (f x) n ≡ true → has (flat_map f xs) n ≡ true
has-flat_map f xs n x c h = has-flat_map_at f xs n c.0 x c.1 (subst (λ y. has (f y) n ≡ true) (sym c.2) h)

pub has_of_front : (ns : List ℕ) (i n : ℕ) → has (take i ns) n ≡ true → has ns n ≡ true
has_of_front ns i n h = ap (λ (ms : List ℕ). has ms n) (sym (take-append-drop i ns)) ∙ (has-append (take i ns) (drop i ns) n ∙ or_left _ _ h)

pub firsts_apart : (ns : List ℕ) → AllPairs (λ a b. a ≢ b) (firsts ns)
firsts_apart ns =
    let P : List ℕ → Type 0 = AllPairs (λ a b. a ≢ b) in
    subst P (firsts_are ns) (apart [] ns (λ i j d less within. absurd (omega arith)))

pub firsts-append : (ms ns : List ℕ) → firsts (ms ++ ns) ≡ all_noted (firsts ms) ns
firsts-append ms ns = sym (firsts_are (ms ++ ns)) ∙ (fold-append noted [] ms ns ∙ ap (λ (acc : List ℕ). all_noted acc ns) (firsts_are ms))
