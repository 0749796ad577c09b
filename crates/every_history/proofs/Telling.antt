-- What is decided of a cell of a run: whether a part holds a handle, and whether the cell kept it or wrote it.
use Rattle.std.proofs.Common.{◌≡◌, ℕ, suc, Bool, true, false, List, [], ◌∷◌, Option, Some, None, refl, sym, ◌⊎◌, inl, inr, subst}
use Rattle.std.specs.Prelude.{slice_get}
use Rattle.std.specs.declared.cmp.Ordering.{Ordering}
use Rattle.std.proofs.lemmas.Bool.{cases_eq}
use Rattle.py_heap.specs.declared.heap.Object.{Object}
use Rattle.py_heap.specs.declared.heap.Object.TheVariants as object
use Rattle.py_heap.specs.declared.state.State.{State}
use Rattle.py_heap.specs.References.{IsClosed}
use Rattle.py_machine.specs.Marked.{SetOf, has_member, IsIn}
use Rattle.py_machine.specs.Runs.{Name}
use Rattle.part_bytes.specs.Parts.{order}
use Rattle.part_bytes.proofs.Orders.{order_lists}
use Rattle.linked_parts.specs.Parts.{IsPart}
use Rattle.linked_parts.proofs.Lists.{none_in, first_in}
use Rattle.run_graph.specs.Parts.{HasHandle}
use Rattle.run_graph.specs.Histories.{Run, Binds, Changes, IsKept, IsWritten}
use Rattle.run_graph.proofs.Kept.{in_part_value}
use Rattle.run_graph.proofs.Lists.{is_bound}
use Rattle.run_graph.proofs.Reached.{has_value, not_both}
use Rattle.history_graph.proofs.Ending.{same_names}
use Rattle.every_history.proofs.Deciding.{Decided, some_in, same_or_other}
use Rattle.every_history.proofs.Linking.{part_with}

-- ---- sets

by_member : {K : Type 0} {R : K → K → Ordering} (s : SetOf R) (x : K) (b : Bool) → has_member s x ≡ b → Decided (IsIn s x)
by_member s x true e = inl (record { is = e })
by_member s x false e = inr (λ i. let h = i.is in let none : ⊥ = cc (e, h) in none)

pub in_or_not : {K : Type 0} {R : K → K → Ordering} (s : SetOf R) (x : K) → Decided (IsIn s x)
in_or_not s x = by_member s x (has_member s x) refl

-- ---- handles

handle_at : (o : Option Object) → Decided ((name : List ℕ) × (uses : ℕ) × (o ≡ Some (object.Handle name uses)))
handle_at (Some (object.Handle name uses)) = inl (name, uses, refl)
handle_at (Some (object.List items)) = inr (λ h. let e = h.2 in let none : ⊥ = cc e in none)
handle_at (Some (object.Tuple items)) = inr (λ h. let e = h.2 in let none : ⊥ = cc e in none)
handle_at (Some (object.Dict pairs)) = inr (λ h. let e = h.2 in let none : ⊥ = cc e in none)
handle_at (Some (object.Function def)) = inr (λ h. let e = h.2 in let none : ⊥ = cc e in none)
handle_at None = inr (λ h. let e = h.2 in let none : ⊥ = cc e in none)

pub handle_or_not : (s : State) → IsClosed s → (names : List Name) → Decided (HasHandle s names)
handle_or_not s closed names =
    let is = order_lists s names closed in
    elim (some_in (λ at. (name : List ℕ) × (uses : ℕ) × (slice_get s.heap at ≡ Some (object.Handle name uses))) (order s names) (λ at. handle_at (slice_get s.heap at))) [
      | inl h ↦ inl (h.0, h.2.0, h.2.1, (is h.0).0 h.1, h.2.2)
      | inr none ↦ inr (λ h. none (h.0, (is h.0).1 h.3, (h.1, h.2, h.4)))
    ]

-- ---- parts

same_names_or_other : (xs ys : List Name) → Decided (xs ≡ ys)
same_names_or_other = same_or_other (same_or_other cases_eq)

pub part_or_not : (s : State) → IsClosed s → (names : List Name) → Decided (IsPart s names)
part_or_not s closed [] = inr (λ p. none_in p.some.0 p.some.1)
part_or_not s closed (x ∷ xs) = elim (has_value s x) [
  | inr none ↦ inr (λ p. not_both s x (in_part_value s (x ∷ xs) p x (first_in x xs)) none)
  | inl v ↦
      let q = part_with s closed x v in
      elim (same_names_or_other (x ∷ xs) q.0) [
        | inl e ↦ inl (subst (IsPart s) (sym e) q.1)
        | inr n ↦ inr (λ p. n (same_names s (x ∷ xs) q.0 p q.1 x (first_in x xs) q.2))
      ]
]

-- ---- what the cell did to a part

module _ (r : Run) (c : ℕ) (before : IsClosed (r.state c)) (after : IsClosed (r.state (suc c))) where
  pub kept_or_written : (names : List Name) → IsKept r c names ⊎ IsWritten r c names
  kept_or_written names =
      let is = order_lists (r.state (suc c)) names after in
      elim (some_in (Binds r c) names (is_bound r c)) [
        | inl b ↦ inr (inl b)
        | inr none ↦ elim (some_in (Changes r c) (order (r.state (suc c)) names) (in_or_not (r.marks (suc c)).changed)) [
          | inl h ↦ inr (inr (inl (h.0, (is h.0).0 h.1, h.2)))
          | inr still ↦ elim (part_or_not (r.state c) before names) [
            | inl p ↦ inl (record {
              names_stay = λ x h b. none (x, h, b);
              objects_stay = λ at h i. still (at, (is at).1 h, i);
              before = p;
            })
            | inr n ↦ inr (inr (inr n))
          ]
        ]
      ]
