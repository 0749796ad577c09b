-- Lists of names and numbers: what they have, and the least of names that ascend.
use Rattle.std.proofs.Common.{◌≡◌, ℕ, zero, suc, ◌<◌, ◌≤◌, Bool, true, false, List, [], ◌∷◌, length, get_or, refl, sym, ◌∙◌, ◌⊎◌, inl, inr, subst, arith}
use Rattle.std.specs.Prelude.{Contains}
use Rattle.std.specs.declared.cmp.Ordering.{Ordering}
use Rattle.std.specs.List.{flat_map}
use Rattle.std.proofs.lemmas.List.Elements.{Contains-append_left, Contains-append_right, Contains-append_cases}
use Rattle.py_machine.specs.Marked.{SetOf, has_member, IsIn}
use Rattle.py_machine.specs.Runs.{Name}
use Rattle.py_laws.proofs.Members.{name_cases}
use Rattle.py_laws.proofs.Partners.{none_in, one_in, first_in, later_in}
use Rattle.graph_model.specs.Faults.{TextBelow, Ascends, least_name}
use Rattle.linked_parts.proofs.Lists.{below_on, never_below_itself, least_in, least_there}
use Rattle.run_graph.specs.Histories.{Run, Binds}

-- ---- what a list has

module _ {X : Type 0} where
  at_position : (y : X) (ys : List X) (x : X) (k : ℕ) → k < length (y ∷ ys) → get_or (y ∷ ys) k x ≡ x → (y ≡ x) ⊎ Contains ys x
  at_position y ys x zero l e = inl e
  at_position y ys x (suc k) l e = inr (k, omega arith, e)

  pub cons_cases : (y : X) (ys : List X) (x : X) → Contains (y ∷ ys) x → (y ≡ x) ⊎ Contains ys x
  cons_cases y ys x h = at_position y ys x h.0 h.1 h.2

module _ {A X : Type 0} where
  pub in_flat : (f : A → List X) (bs : List A) (a : A) (x : X) → Contains bs a → Contains (f a) x → Contains (flat_map f bs) x
  in_flat f [] a x h k = absurd (none_in a h)
  in_flat f (b ∷ bs) a x h k = elim (cons_cases b bs a h) [
    | inl e ↦ Contains-append_left (f b) (flat_map f bs) x (subst (λ z. Contains (f z) x) (sym e) k)
    | inr more ↦ Contains-append_right (f b) (flat_map f bs) x (in_flat f bs a x more k)
  ]

  pub from_flat : (f : A → List X) (bs : List A) (x : X) → Contains (flat_map f bs) x → (a : A) × Contains bs a × Contains (f a) x
  from_flat f [] x h = absurd (none_in x h)
  from_flat f (b ∷ bs) x h = elim (Contains-append_cases (f b) (flat_map f bs) x h) [
    | inl k ↦ (b, first_in b bs, k)
    | inr k ↦ let r = from_flat f bs x k in (r.0, later_in b bs r.0 r.1, r.2)
  ]

pub alone : {X : Type 0} (xs : List X) (a b : X) → length xs ≤ 1 → Contains xs a → Contains xs b → a ≡ b
alone [] a b l h k = absurd (none_in a h)
alone (x ∷ []) a b l h k = sym (one_in x a h) ∙ one_in x b k
alone (x ∷ y ∷ xs) a b l h k = let none : ⊥ = omega (arith, l) in absurd none

pub has_name : (names : List Name) (x : Name) → Contains names x ⊎ (¬ Contains names x)
has_name [] x = inr (none_in x)
has_name (y ∷ ys) x = elim (name_cases y x) [
  | inl e ↦ inl (subst (λ z. Contains (y ∷ ys) z) e (first_in y ys))
  | inr other ↦ elim (has_name ys x) [
    | inl h ↦ inl (later_in y ys x h)
    | inr none ↦ inr (λ h. elim (cons_cases y ys x h) [ inl e ↦ other e | inr h ↦ none h ])
  ]
]

-- ---- what a set has

by_member : {K : Type 0} {R : K → K → Ordering} (s : SetOf R) (x : K) (b : Bool) → has_member s x ≡ b → IsIn s x ⊎ (¬ IsIn s x)
by_member s x true e = inl (record { is = e })
by_member s x false e = inr (λ i. let h = i.is in let none : ⊥ = cc (e, h) in none)

pub is_bound : (r : Run) (c : ℕ) (x : Name) → Binds r c x ⊎ (¬ Binds r c x)
is_bound r c x = by_member (r.marks (suc c)).bound x (has_member (r.marks (suc c)).bound x) refl

-- ---- the order of names

pub same_least : (xs ys : List Name) → Ascends TextBelow xs → Ascends TextBelow ys → (x : Name) → Contains xs x
    → ((z : Name) → Contains xs z → Contains ys z) → ((z : Name) → Contains ys z → Contains xs z) → least_name xs ≡ least_name ys
same_least xs ys a b x h to from =
    let m : Contains xs (least_name xs) = least_there xs x h in
    let n : Contains ys (least_name ys) = least_there ys x (to x h) in
    elim (least_in xs (least_name ys) a (from (least_name ys) n)) [
      | inl e ↦ e
      | inr p ↦ elim (least_in ys (least_name xs) b (to (least_name xs) m)) [
        | inl e ↦ sym e
        | inr q ↦ absurd (never_below_itself (least_name xs) (below_on (least_name xs) (least_name ys) (least_name xs) p q))
      ]
    ]
