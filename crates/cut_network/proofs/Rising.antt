-- Numbers that rise.
use Rattle.std.proofs.Common.{◌≡◌, ℕ, zero, suc, ◌+◌, ◌<◌, ◌≤◌, Bool, true, false, cond, List, [], ◌∷◌, ◌++◌, length, get_or, refl, sym, ap, ◌∙◌, subst, inl, inr, arith}
use Rattle.std.specs.Prelude.{Contains, nat_lt, count_by, filter}
use Rattle.std.specs.List.Sorted.{IsStrictlyIncreasing}
use Rattle.std.proofs.lemmas.Bool.{cond-true, cond-false, lt-ltb, le-ltb}
use Rattle.std.proofs.lemmas.List.Sums.{sum_by-cons}
use Rattle.std.proofs.lemmas.List.{append-nil}
use Rattle.std.proofs.lemmas.List.Elements.{filter-append}
use Rattle.graph_model.specs.Networks.{count_up, is_active_at, actives}
use Rattle.graph_model.specs.declared.graph.Graph.{Graph}
use Rattle.plan_model.proofs.Ascents.{Rises, rises-tail, rises-head}
use Rattle.plan_model.proofs.Deciding.{contains-tail, contains-head, contains-cases, contains-nil}
use Rattle.plan_model.proofs.Listing.{rises-above, sum-zero, length-count_up}

-- two lists of numbers that rise, with the same members, are equal
pub rising_unique : (xs ys : List ℕ) → Rises xs → Rises ys → ((n : ℕ) → Contains xs n → Contains ys n) → ((n : ℕ) → Contains ys n → Contains xs n) → xs ≡ ys
rising_unique [] [] a b f g = refl
rising_unique [] (y ∷ ys) a b f g = absurd (contains-nil y (g y (contains-head y ys)))
rising_unique (x ∷ xs) [] a b f g = absurd (contains-nil x (f x (contains-head x xs)))
rising_unique (x ∷ xs) (y ∷ ys) a b f g =
    let e = heads in
    ap (λ (n : ℕ). n ∷ xs) e ∙ ap (λ (zs : List ℕ). y ∷ zs) (rising_unique xs ys (rises-tail x xs a) (rises-tail y ys b)
    (λ n c. elim (contains-cases y ys n (f n (contains-tail x xs n c))) [
      | inl q ↦ let l = rises-above x xs a n c in absurd (omega arith)
      | inr d ↦ d
    ])
    (λ n c. elim (contains-cases x xs n (g n (contains-tail y ys n c))) [
      | inl q ↦ let l = rises-above y ys b n c in absurd (omega arith)
      | inr d ↦ d
    ]))
  where
    heads : x ≡ y
    heads = elim (contains-cases y ys x (f x (contains-head x xs))) [
      | inl q ↦ sym q
      | inr c ↦ elim (contains-cases x xs y (g y (contains-head y ys))) [
        | inl q ↦ q
        | inr d ↦ let l = rises-above y ys b x c in let m = rises-above x xs a y d in absurd (omega arith)
      ]
    ]

-- the count of the numbers below one of them is its index
pub rank-of : (xs : List ℕ) (i d : ℕ) → Rises xs → i < length xs → count_by (λ u. nat_lt u (get_or xs i d)) xs ≡ i
rank-of [] i d r l = absurd (omega arith)
rank-of (x ∷ xs) zero d r l =
    let s = sum_by-cons (λ u. cond (nat_lt u x) 1 0) x xs in
    let a = cond-false {A = ℕ} (nat_lt x x) 1 0 (le-ltb x x (omega arith)) in
    let z = sum-zero (λ u. cond (nat_lt u x) 1 0) xs (λ n m. let k = rises-above x xs r n m in cond-false {A = ℕ} (nat_lt n x) 1 0 (le-ltb n x (omega arith))) in
    omega (arith, s, a, z)
rank-of (x ∷ xs) (suc i) d r l =
    let v = get_or xs i d in
    let s = sum_by-cons (λ u. cond (nat_lt u v) 1 0) x xs in
    let b : x < v = rises-head x xs r i d (omega arith) in
    let a = cond-true {A = ℕ} (nat_lt x v) 1 0 (lt-ltb x v b) in
    let k = rank-of xs i d (rises-tail x xs r) (omega arith) in
    omega (arith, s, a, k)

pub rising-from_increasing : (xs : List ℕ) → IsStrictlyIncreasing xs → Rises xs
rising-from_increasing [] h = tt
rising-from_increasing (x ∷ []) h = tt
rising-from_increasing (x ∷ y ∷ more) h = (
  h 0 (omega arith),
  rising-from_increasing (y ∷ more) (λ k l.
      let e : suc k + 1 ≡ suc (k + 1) = omega arith in
      let P : ℕ → Type 0 = λ n. get_or (y ∷ more) k 0 < get_or (x ∷ y ∷ more) n 0 in
      subst P e (h (suc k) (omega arith))),
)

-- one number more

pub count_up-more : (a k : ℕ) → count_up a (k + 1) ≡ count_up a k ++ (a + k) ∷ []
count_up-more a k = let e : k + 1 ≡ suc k = omega arith in ap (count_up a) e ∙ go a k
  where
    go : (a k : ℕ) → count_up a (suc k) ≡ count_up a k ++ (a + k) ∷ []
    go a zero = let e : a ≡ a + 0 = omega arith in ap (λ (n : ℕ). n ∷ []) e
    go a (suc k) =
        let e : suc a + k ≡ a + suc k = omega arith in
        ap (λ (xs : List ℕ). a ∷ xs) (go (suc a) k ∙ ap (λ (n : ℕ). count_up (suc a) k ++ n ∷ []) e)

pub count_up-next : (k : ℕ) → count_up 1 (k + 1) ≡ count_up 1 k ++ (k + 1) ∷ []
count_up-next k = let e : 1 + k ≡ k + 1 = omega arith in count_up-more 1 k ∙ ap (λ (n : ℕ). count_up 1 k ++ n ∷ []) e

pub filter-next : (p : ℕ → Bool) (k : ℕ) → filter p (count_up 1 (k + 1)) ≡ filter p (count_up 1 k) ++ cond (p (k + 1)) ((k + 1) ∷ []) []
filter-next p k = ap (filter p) (count_up-next k) ∙ filter-append p (count_up 1 k) ((k + 1) ∷ [])

pub filter-next_yes : (p : ℕ → Bool) (k : ℕ) → p (k + 1) ≡ true → filter p (count_up 1 (k + 1)) ≡ filter p (count_up 1 k) ++ (k + 1) ∷ []
filter-next_yes p k h = filter-next p k ∙ ap (λ (xs : List ℕ). filter p (count_up 1 k) ++ xs) (cond-true (p (k + 1)) _ _ h)

pub filter-next_no : (p : ℕ → Bool) (k : ℕ) → p (k + 1) ≡ false → filter p (count_up 1 (k + 1)) ≡ filter p (count_up 1 k)
filter-next_no p k h = filter-next p k ∙ (ap (λ (xs : List ℕ). filter p (count_up 1 k) ++ xs) (cond-false (p (k + 1)) _ _ h) ∙ append-nil (filter p (count_up 1 k)))

length-filter : {X : Type 0} (p : X → Bool) (xs : List X) → length (filter p xs) ≤ length xs
length-filter p [] = omega arith
length-filter {X} p (x ∷ xs) =
    let r = length-filter p xs in
    elim (p x) as (λ b. length (cond b (x ∷ filter p xs) (filter p xs)) ≤ suc (length xs)) [ true ↦ omega arith | false ↦ omega arith ]

pub length-actives : (g : Graph) → length (actives g) ≤ length g.versions
length-actives g =
    let a = length-filter (is_active_at g) (count_up 1 (length g.versions)) in
    let b = length-count_up 1 (length g.versions) in
    omega arith
