-- Numbers that rise, filters, and sums over them.
use Rattle.std.proofs.Common.{◌≡◌, ℕ, zero, suc, ◌+◌, ◌<◌, ◌≤◌, Bool, true, false, cond, ◌||◌, List, [], ◌∷◌, ◌++◌, map, length, get_or, refl, sym, ap, ◌∙◌, subst, inl, inr, arith}
use Rattle.std.specs.Prelude.{◌==◌, Contains, sum_by, filter}
use Rattle.std.specs.List.{flat_map, AllByRecursion}
use Rattle.std.proofs.lemmas.Bool.{false≢true, cases_eq, eq-eqb, eqb-true, ne_eqb, cases_Bool, cond-true, cond-false, or_left, or_right, or_cases, false_from_ne_true}
use Rattle.std.proofs.lemmas.List.Sums.{sum_by-cons, sum_by-append}
use Rattle.graph_model.specs.Networks.{count_up}
use Rattle.plan_model.proofs.Ascents.{Rises, rises-tail}
use Rattle.plan_model.proofs.Deciding.{contains-tail, contains-head, contains-cases, contains-nil}

-- the head of numbers that rise is below the others
pub rises-above : (x : ℕ) (xs : List ℕ) → Rises (x ∷ xs) → (n : ℕ) → Contains xs n → x < n
rises-above x [] h n c = absurd (contains-nil n c)
rises-above x (y ∷ ys) h n c = elim (contains-cases y ys n c) [
  | inl e ↦ let l : x < y = h.0 in omega arith
  | inr d ↦ let l : x < y = h.0 in let m = rises-above y ys h.1 n d in omega arith
]

pub rises-cons : (x : ℕ) (xs : List ℕ) → ((n : ℕ) → Contains xs n → x < n) → Rises xs → Rises (x ∷ xs)
rises-cons x [] h r = tt
rises-cons x (y ∷ ys) h r = (h y (contains-head y ys), r)

-- counting up

pub count_up-from : (a k n : ℕ) → Contains (count_up a k) n → a ≤ n
count_up-from a zero n c = absurd (contains-nil n c)
count_up-from a (suc k) n c = elim (contains-cases a (count_up (suc a) k) n c) [
  | inl e ↦ omega arith
  | inr d ↦ let l = count_up-from (suc a) k n d in omega arith
]

pub count_up-to : (a k n : ℕ) → Contains (count_up a k) n → n < a + k
count_up-to a zero n c = absurd (contains-nil n c)
count_up-to a (suc k) n c = elim (contains-cases a (count_up (suc a) k) n c) [
  | inl e ↦ omega arith
  | inr d ↦ let l = count_up-to (suc a) k n d in omega arith
]

pub count_up-has : (a k n : ℕ) → a ≤ n → n < a + k → Contains (count_up a k) n
count_up-has a zero n l m = absurd (omega arith)
count_up-has a (suc k) n l m = elim (cases_eq a n) [
  | inl e ↦ let P : ℕ → Type 0 = λ j. Contains (count_up a (suc k)) j in subst P e (contains-head a (count_up (suc a) k))
  | inr d ↦ contains-tail a (count_up (suc a) k) n (count_up-has (suc a) k n (omega arith) (omega arith))
]

pub count_up-rises : (a k : ℕ) → Rises (count_up a k)
count_up-rises a zero = tt
count_up-rises a (suc k) = rises-cons a (count_up (suc a) k) (λ n c. let l = count_up-from (suc a) k n c in omega arith) (count_up-rises (suc a) k)

pub length-count_up : (a k : ℕ) → length (count_up a k) ≡ k
length-count_up a zero = refl
length-count_up a (suc k) = ap suc (length-count_up (suc a) k)

-- filters

pub filter-yes : {X : Type 0} (p : X → Bool) (x : X) (xs : List X) → p x ≡ true → filter p (x ∷ xs) ≡ x ∷ filter p xs
filter-yes p x xs h = cond-true (p x) _ _ h

pub filter-no : {X : Type 0} (p : X → Bool) (x : X) (xs : List X) → p x ≡ false → filter p (x ∷ xs) ≡ filter p xs
filter-no p x xs h = cond-false (p x) _ _ h

pub filter-has : {X : Type 0} (p : X → Bool) (xs : List X) (n : X) → Contains xs n → p n ≡ true → Contains (filter p xs) n
filter-has p [] n c h = absurd (contains-nil n c)
filter-has {X} p (x ∷ xs) n c h =
    let P : List X → Type 0 = λ ys. Contains ys n in
    elim (contains-cases x xs n c) [
      | inl e ↦
          let Q : X → Type 0 = λ y. p y ≡ true in
          let R : X → Type 0 = λ y. Contains (x ∷ filter p xs) y in
          subst P (sym (filter-yes p x xs (subst Q (sym e) h))) (subst R e (contains-head x (filter p xs)))
      | inr d ↦ elim (cases_Bool (p x)) [
        | inl t ↦ subst P (sym (filter-yes p x xs t)) (contains-tail x (filter p xs) n (filter-has p xs n d h))
        | inr f ↦ subst P (sym (filter-no p x xs f)) (filter-has p xs n d h)
      ]
    ]

pub filter-from : {X : Type 0} (p : X → Bool) (xs : List X) (n : X) → Contains (filter p xs) n → Contains xs n × (p n ≡ true)
filter-from p [] n c = absurd (contains-nil n c)
filter-from {X} p (x ∷ xs) n c =
    let P : List X → Type 0 = λ ys. Contains ys n in
    elim (cases_Bool (p x)) [
      | inl t ↦ elim (contains-cases x (filter p xs) n (subst P (filter-yes p x xs t) c)) [
        | inl e ↦
            let Q : X → Type 0 = λ y. p y ≡ true in
            let R : X → Type 0 = λ y. Contains (x ∷ xs) y in
            (subst R e (contains-head x xs), subst Q e t)
        | inr d ↦ let i = filter-from p xs n d in (contains-tail x xs n i.0, i.1)
      ]
      | inr f ↦ let i = filter-from p xs n (subst P (filter-no p x xs f) c) in (contains-tail x xs n i.0, i.1)
    ]

pub filter-rises : (p : ℕ → Bool) (xs : List ℕ) → Rises xs → Rises (filter p xs)
filter-rises p [] h = tt
filter-rises p (x ∷ xs) h = elim (cases_Bool (p x)) [
  | inl t ↦ subst Rises (sym (filter-yes p x xs t)) (rises-cons x (filter p xs) (λ n c. rises-above x xs h n (filter-from p xs n c).0) (filter-rises p xs (rises-tail x xs h)))
  | inr f ↦ subst Rises (sym (filter-no p x xs f)) (filter-rises p xs (rises-tail x xs h))
]

pub filter-same : {X : Type 0} (p q : X → Bool) (xs : List X) → ((n : X) → Contains xs n → p n ≡ q n) → filter p xs ≡ filter q xs
filter-same p q [] h = refl
filter-same {X} p q (x ∷ xs) h =
    let r = filter-same p q xs (λ n c. h n (contains-tail x xs n c)) in
    let e = h x (contains-head x xs) in
    ap (λ (b : Bool). cond b (x ∷ filter p xs) (filter p xs)) e ∙ ap (λ (ys : List X). cond (q x) (x ∷ ys) ys) r

-- a number is among numbers
abbrev pub is_in : List ℕ → ℕ → Bool
is_in [] n = false
is_in (x ∷ xs) n = (x == n) || is_in xs n

pub is_in-has : (xs : List ℕ) (n : ℕ) → is_in xs n ≡ true → Contains xs n
is_in-has [] n h = absurd (false≢true h)
is_in-has (x ∷ xs) n h = elim (or_cases (x == n) (is_in xs n) h) [
  | inl e ↦ let P : ℕ → Type 0 = λ j. Contains (x ∷ xs) j in subst P (eqb-true x n e) (contains-head x xs)
  | inr k ↦ contains-tail x xs n (is_in-has xs n k)
]

pub has-is_in : (xs : List ℕ) (n : ℕ) → Contains xs n → is_in xs n ≡ true
has-is_in [] n c = absurd (contains-nil n c)
has-is_in (x ∷ xs) n c = elim (contains-cases x xs n c) [
  | inl e ↦ or_left (x == n) (is_in xs n) (eq-eqb x n e)
  | inr d ↦ or_right (x == n) (is_in xs n) (has-is_in xs n d)
]

-- numbers that rise are what a filter keeps of the numbers from a on
pub rising_filter : (ns : List ℕ) (a k : ℕ) → Rises ns → ((n : ℕ) → Contains ns n → (a ≤ n) × (n < a + k)) → filter (is_in ns) (count_up a k) ≡ ns
rising_filter [] a k r b = none (count_up a k)
  where
    none : (xs : List ℕ) → filter (is_in []) xs ≡ []
    none [] = refl
    none (x ∷ xs) = none xs
rising_filter (m ∷ ms) a zero r b = let i = b m (contains-head m ms) in let l : a ≤ m = i.0 in let h : m < a + 0 = i.1 in absurd (omega arith)
rising_filter (m ∷ ms) a (suc k) r b = elim (cases_eq m a) [
  | inl e ↦
      let rest : filter (is_in (m ∷ ms)) (count_up (suc a) k) ≡ filter (is_in ms) (count_up (suc a) k) =
      filter-same (is_in (m ∷ ms)) (is_in ms) (count_up (suc a) k)
      (λ n c. let l = count_up-from (suc a) k n c in ap (λ (t : Bool). t || is_in ms n) (ne_eqb m n (λ f. omega arith))) in
      let tail = rising_filter ms (suc a) k (rises-tail m ms r) (λ n c.
      let i = b n (contains-tail m ms n c) in let h : n < a + suc k = i.1 in let l = rises-above m ms r n c in (omega arith, omega arith)) in
      filter-yes (is_in (m ∷ ms)) a (count_up (suc a) k) (or_left (m == a) (is_in ms a) (eq-eqb m a e)) ∙ (ap (λ (ys : List ℕ). a ∷ ys) (rest ∙ tail) ∙ ap (λ (j : ℕ). j ∷ ms) (sym e))
  | inr d ↦
      let low = (b m (contains-head m ms)).0 in
      let past : is_in (m ∷ ms) a ≡ true → ⊥ = λ t. elim (contains-cases m ms a (is_in-has (m ∷ ms) a t)) [
        | inl e ↦ d e
        | inr c ↦ let l = rises-above m ms r a c in let h : a ≤ m = low in absurd (omega arith)
      ] in
      filter-no (is_in (m ∷ ms)) a (count_up (suc a) k) (false_from_ne_true (is_in (m ∷ ms) a) past)
      ∙ rising_filter (m ∷ ms) (suc a) k r (λ n c.
      let i = b n c in let h : n < a + suc k = i.1 in (
        elim (contains-cases m ms n c) [
          | inl e ↦ let l : a ≤ m = low in omega arith
          | inr f ↦ let l : a ≤ m = low in let g = rises-above m ms r n f in omega arith
        ],
        omega arith,
      ))
]

-- sums

pub sum-filter : {X : Type 0} (f : X → ℕ) (p : X → Bool) (xs : List X) → sum_by f (filter p xs) ≡ sum_by (λ x. cond (p x) (f x) 0) xs
sum-filter f p [] = refl
sum-filter {X} f p (x ∷ xs) =
    let r = sum-filter f p xs in
    let s = sum_by-cons (λ y. cond (p y) (f y) 0) x xs in
    elim (cases_Bool (p x)) [
      | inl t ↦
          let a = ap (sum_by f) (filter-yes p x xs t) ∙ sum_by-cons f x (filter p xs) in
          let b = cond-true (p x) (f x) 0 t in
          omega (arith, a, b, r, s)
      | inr t ↦
          let a = ap (sum_by f) (filter-no p x xs t) in
          let b = cond-false (p x) (f x) 0 t in
          omega (arith, a, b, r, s)
    ]

pub sum-same : {X : Type 0} (f g : X → ℕ) (xs : List X) → ((n : X) → Contains xs n → f n ≡ g n) → sum_by f xs ≡ sum_by g xs
sum-same f g [] h = refl
sum-same f g (x ∷ xs) h =
    let a = sum_by-cons f x xs in
    let b = sum_by-cons g x xs in
    let e = h x (contains-head x xs) in
    let r = sum-same f g xs (λ n c. h n (contains-tail x xs n c)) in
    omega (arith, a, b, e, r)

pub sum-le : {X : Type 0} (f g : X → ℕ) (xs : List X) → ((n : X) → Contains xs n → f n ≤ g n) → sum_by f xs ≤ sum_by g xs
sum-le f g [] h = omega arith
sum-le f g (x ∷ xs) h =
    let a = sum_by-cons f x xs in
    let b = sum_by-cons g x xs in
    let e = h x (contains-head x xs) in
    let r = sum-le f g xs (λ n c. h n (contains-tail x xs n c)) in
    omega (arith, a, b, e, r)

pub sum-zero : {X : Type 0} (f : X → ℕ) (xs : List X) → ((n : X) → Contains xs n → f n ≡ 0) → sum_by f xs ≡ 0
sum-zero f [] h = refl
sum-zero f (x ∷ xs) h =
    let a = sum_by-cons f x xs in
    let e = h x (contains-head x xs) in
    let r = sum-zero f xs (λ n c. h n (contains-tail x xs n c)) in
    omega (arith, a, e, r)

-- each term is within the sum
pub term-le : {X : Type 0} (f : X → ℕ) (xs : List X) (n : X) → Contains xs n → f n ≤ sum_by f xs
term-le f [] n c = absurd (contains-nil n c)
term-le {X} f (x ∷ xs) n c =
    let a = sum_by-cons f x xs in
    elim (contains-cases x xs n c) [
      | inl e ↦ let h = ap f e in omega (arith, a, h)
      | inr d ↦ let r = term-le f xs n d in omega (arith, a, r)
    ]

-- a sum over a list is one over its indices
pub sum-places : {X : Type 0} (F : X → ℕ) (h : ℕ → ℕ) (xs : List X) (a : ℕ) → ((k : ℕ) (d : X) → k < length xs → h (a + k) ≡ F (get_or xs k d)) → sum_by h (count_up a (length xs)) ≡ sum_by F xs
sum-places F h [] a e = refl
sum-places {X} F h (x ∷ xs) a e =
    let s = sum_by-cons F x xs in
    let t = sum_by-cons h a (count_up (suc a) (length xs)) in
    let z : a + 0 ≡ a = omega arith in
    let first = ap h (sym z) ∙ e 0 x (omega arith) in
    let r = sum-places F h xs (suc a) (λ k d l. let m : suc a + k ≡ a + suc k = omega arith in ap h m ∙ e (suc k) d (omega arith)) in
    omega (arith, s, t, first, r)

pub sum-map : {X Y : Type 0} (f : Y → ℕ) (h : X → Y) (xs : List X) → sum_by f (map h xs) ≡ sum_by (λ x. f (h x)) xs
sum-map f h [] = refl
sum-map f h (x ∷ xs) =
    let a = sum_by-cons f (h x) (map h xs) in
    let b = sum_by-cons (λ y. f (h y)) x xs in
    let r = sum-map f h xs in
    omega (arith, a, b, r)

pub sum-flat_map : {X Y : Type 0} (f : Y → ℕ) (h : X → List Y) (xs : List X) → sum_by f (flat_map h xs) ≡ sum_by (λ x. sum_by f (h x)) xs
sum-flat_map f h [] = refl
sum-flat_map f h (x ∷ xs) =
    let a = sum_by-append f (h x) (flat_map h xs) in
    let b = sum_by-cons (λ y. sum_by f (h y)) x xs in
    let r = sum-flat_map f h xs in
    omega (arith, a, b, r)

-- what holds of each element, by recursion on the list

pub every-append : {X : Type 0} (P : X → Type 0) (xs ys : List X) → AllByRecursion P xs → AllByRecursion P ys → AllByRecursion P (xs ++ ys)
every-append P [] ys h i = i
every-append P (x ∷ xs) ys h i = (h.0, every-append P xs ys h.1 i)

pub every-map : {X Y : Type 0} (P : Y → Type 0) (h : X → Y) (xs : List X) → ((x : X) → Contains xs x → P (h x)) → AllByRecursion P (map h xs)
every-map P h [] e = tt
every-map P h (x ∷ xs) e = (e x (contains-head x xs), every-map P h xs (λ y c. e y (contains-tail x xs y c)))

pub every-flat_map : {X Y : Type 0} (P : Y → Type 0) (h : X → List Y) (xs : List X) → ((x : X) → Contains xs x → AllByRecursion P (h x)) → AllByRecursion P (flat_map h xs)
every-flat_map P h [] e = tt
every-flat_map P h (x ∷ xs) e = every-append P (h x) (flat_map h xs) (e x (contains-head x xs)) (every-flat_map P h xs (λ y c. e y (contains-tail x xs y c)))
