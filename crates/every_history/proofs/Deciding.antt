-- What holds or doesn't, and lists of what holds.
use Rattle.std.proofs.Common.{◌≡◌, List, [], ◌∷◌, Bool, true, false, refl, sym, ◌⊎◌, inl, inr, subst}
use Rattle.std.specs.Prelude.{Contains, ◌↔◌}
use Rattle.std.specs.List.{AllZip}
use Rattle.std.proofs.lemmas.Bool.{false≢true}
use Rattle.graph_model.specs.Faults.{Ascends}
use Rattle.linked_parts.proofs.Lists.{none_in, first_in, cons_cases}
use Rattle.py_laws.proofs.Partners.{later_in}

-- it holds or it doesn't
abbrev pub Decided : Type 0 → Type 0
Decided P = P ⊎ (¬ P)

pub both : {P Q : Type 0} → Decided P → Decided Q → Decided (P × Q)
both (inl p) (inl q) = inl (p, q)
both (inl p) (inr n) = inr (λ h. n h.1)
both (inr n) d = inr (λ h. n h.0)

pub either : {P Q : Type 0} → Decided P → Decided Q → Decided (P ⊎ Q)
either (inl p) d = inl (inl p)
either (inr n) (inl q) = inl (inr q)
either (inr n) (inr m) = inr (λ h. elim h [ inl p ↦ n p | inr q ↦ m q ])

-- a truth value that tells it
pub told : {P : Type 0} → Decided P → (b : Bool) × ((b ≡ true) ↔ P)
told (inl p) = (true, ((λ e. p), (λ q. refl)))
told (inr n) = (false, ((λ e. absurd (false≢true e)), (λ p. absurd (n p))))

-- ---- of an element of a list

module _ {X : Type 0} where
  -- it holds of an element, or of none
  pub some_in : (P : X → Type 0) (xs : List X) → ((x : X) → Decided (P x)) → Decided ((x : X) × Contains xs x × P x)
  some_in P [] d = inr (λ h. none_in h.0 h.1)
  some_in P (x ∷ xs) d = elim (d x) [
    | inl p ↦ inl (x, first_in x xs, p)
    | inr n ↦ elim (some_in P xs d) [
      | inl h ↦ inl (h.0, later_in x xs h.0 h.1, h.2)
      | inr none ↦ inr (λ h. elim (cons_cases x xs h.0 h.1) [ inl e ↦ n (subst P (sym e) h.2) | inr k ↦ none (h.0, k, h.2) ])
    ]
  ]

  -- two lists are equal or they aren't, if that is so of their elements
  pub same_or_other : ((x y : X) → Decided (x ≡ y)) → (xs ys : List X) → Decided (xs ≡ ys)
  same_or_other d [] [] = inl refl
  same_or_other d [] (y ∷ ys) = inr (λ e. cc)
  same_or_other d (x ∷ xs) [] = inr (λ e. cc)
  same_or_other d (x ∷ xs) (y ∷ ys) = elim (d x y) [
    | inl e ↦ elim (same_or_other d xs ys) [ inl f ↦ inl cc | inr n ↦ inr (λ f. n (cc)) ]
    | inr n ↦ inr (λ f. n (cc))
  ]

-- ---- lists that ascend

module _ {X : Type 0} (Below : X → X → Type 0) (on : (x y z : X) → Below x y → Below y z → Below x z) where
  rest : (x : X) (xs : List X) → Ascends Below (x ∷ xs) → Ascends Below xs
  rest x [] a = tt
  rest x (y ∷ xs) a = a.1

  above : (x : X) (xs : List X) → Ascends Below (x ∷ xs) → (y : X) → Contains xs y → Below x y
  above x [] a y c = absurd (none_in y c)
  above x (z ∷ xs) a y c = elim (cons_cases z xs y c) [
    | inl e ↦ subst (Below x) e a.0
    | inr k ↦ on x z y a.0 (above z xs a.1 y k)
  ]

  headed : {Y : Type 0} (Under : Y → Y → Type 0) (y : Y) (ys : List Y) → Ascends Under ys → ((z : Y) → Contains ys z → Under y z) → Ascends Under (y ∷ ys)
  headed Under y [] a h = tt
  headed Under y (z ∷ ys) a h = (h z (first_in z ys), a)

  -- for each of these there is one with which the relation holds, or it needs none: the list of all those
  pub gathered : {Y : Type 0} (Under : Y → Y → Type 0) (R : X → Y → Type 0) (NeedsNone : X → Type 0)
      → ((x z : X) (y w : Y) → R x y → R z w → Below x z → Under y w) → ((x : X) → ((y : Y) × R x y) ⊎ NeedsNone x) → (xs : List X) → Ascends Below xs
      → (ys : List Y) × Ascends Under ys × ((y : Y) → Contains ys y → (x : X) × Contains xs x × R x y)
      × ((x : X) → Contains xs x → ((y : Y) × Contains ys y × R x y) ⊎ NeedsNone x)
  gathered Under R NeedsNone keeps d [] a = ([], tt, (λ y c. absurd (none_in y c)), (λ x c. absurd (none_in x c)))
  gathered Under R NeedsNone keeps d (x ∷ xs) a =
      let more = gathered Under R NeedsNone keeps d xs (rest x xs a) in
      elim (d x) [
        | inl one ↦ (
          one.0 ∷ more.0,
          headed Under one.0 more.0 more.1 (λ z c. let w = more.2 z c in keeps x w.0 one.0 z one.1 w.2 (above x xs a w.0 w.1)),
          (λ y c. elim (cons_cases one.0 more.0 y c) [
            | inl e ↦ (x, first_in x xs, subst (R x) e one.1)
            | inr k ↦ let w = more.2 y k in (w.0, later_in x xs w.0 w.1, w.2)
          ]),
          (λ z c. elim (cons_cases x xs z c) [
            | inl e ↦ inl (one.0, first_in one.0 more.0, subst (λ v. R v one.0) e one.1)
            | inr k ↦ elim (more.3 z k) [ inl w ↦ inl (w.0, later_in one.0 more.0 w.0 w.1, w.2) | inr n ↦ inr n ]
          ]),
        )
        | inr none ↦ (
          more.0,
          more.1,
          (λ y c. let w = more.2 y c in (w.0, later_in x xs w.0 w.1, w.2)),
          (λ z c. elim (cons_cases x xs z c) [
            | inl e ↦ inr (subst NeedsNone e none)
            | inr k ↦ more.3 z k
          ]),
        )
      ]

  -- those of a list of which it holds
  pub sifted : (P : X → Type 0) → ((x : X) → Decided (P x)) → (xs : List X) → Ascends Below xs
      → (ys : List X) × Ascends Below ys × ((x : X) → Contains ys x ↔ (Contains xs x × P x))
  sifted P d xs a =
      let all = gathered Below (λ x y. (x ≡ y) × P y) (λ x. ¬ P x) (λ x z y w r q b. subst (λ v. Below y v) q.0 (subst (λ v. Below v z) r.0 b)) (λ x. elim (d x) [
        | inl p ↦ inl (x, (refl, p))
        | inr n ↦ inr n
      ]) xs a in (
        all.0,
        all.1,
        λ x. (
          λ c. let w = all.2 x c in (subst (λ v. Contains xs v) w.2.0 w.1, w.2.1),
          λ h. elim (all.3 x h.0) [
            | inl w ↦ subst (λ v. Contains all.0 v) (sym w.2.0) w.1
            | inr n ↦ absurd (n h.1)
          ],
        ),
      )

-- a list with a partner for each
pub partnered : {X Y : Type 0} (R : X → Y → Type 0) → ((x : X) → (y : Y) × R x y) → (xs : List X) → (ys : List Y) × AllZip R xs ys
partnered R f [] = ([], tt)
partnered R f (x ∷ xs) = let one = f x in let more = partnered R f xs in (one.0 ∷ more.0, (one.1, more.1))
