-- What names reach: each from one of them, and in another state.
use Rattle.std.proofs.Common.{◌≡◌, ℕ, List, [], ◌∷◌, Option, Some, None, refl, sym, ◌∙◌, ◌⊎◌, inl, inr, subst}
use Rattle.std.specs.Prelude.{Contains, slice_get}
use Rattle.std.specs.FinMap as finite
use Rattle.std.proofs.lemmas.Option.{none-some}
use Rattle.py_value.specs.declared.value.Value.{Value}
use Rattle.py_heap.specs.declared.state.State.{State}
use Rattle.py_heap.specs.References.{value_refs, object_refs}
use Rattle.py_heap.specs.Reaching.{held_refs, Reach}
use Rattle.py_heap.specs.Reaching as reaching
use Rattle.py_machine.specs.Runs.{Name}
use Rattle.py_laws.proofs.Partners.{one_in, first_in}
use Rattle.py_laws.proofs.Reached.{reach_more}
use Rattle.linked_parts.specs.Parts.{HasValue, HasNone, Reaches}

-- ---- from one

pub reach_from_one : (s : State) (names : List Name) (at : ℕ) → Reach s names at → (x : Name) × Contains names x × Reaches s x at
reach_from_one s names n (reaching.named x at c r) = (x, c, reaching.named x at (first_in x []) r)
reach_from_one s names n (reaching.held from at r c) =
    let w = reach_from_one s names from r in
    (w.0, w.1, reaching.held from at w.2 c)

pub reach_by_one : (s : State) (names : List Name) (x : Name) (at : ℕ) → Contains names x → Reaches s x at → Reach s names at
reach_by_one s names x at c r = reach_more s (x ∷ []) names (λ y h. subst (λ z. Contains names z) (one_in x y h) c) at r

-- ---- a name has a value or none

value_cases : (o : Option Value) → ((held : Value) × (o ≡ Some held)) ⊎ (o ≡ None)
value_cases (Some v) = inl (v, refl)
value_cases None = inr refl

pub has_value : (s : State) (x : Name) → HasValue s x ⊎ HasNone s x
has_value s x = value_cases (finite.get s.globals x)

pub not_both : (s : State) (x : Name) → HasValue s x → ¬ HasNone s x
not_both s x v none = none-some v.0 (sym none ∙ v.1)

-- ---- in another state, in which the names have the same values and what both reach is the same

module _ (s t : State) (names : List Name) (values : (x : Name) → Contains names x → finite.get t.globals x ≡ finite.get s.globals x)
    (same : (at : ℕ) → Reach s names at → Reach t names at → slice_get t.heap at ≡ slice_get s.heap at) where
  pub reach_forth : (at : ℕ) → Reach s names at → Reach t names at
  reach_forth n (reaching.named x at c r) = reaching.named x at c (subst (λ o. Contains (held_refs value_refs o) at) (sym (values x c)) r)
  reach_forth n (reaching.held from at r k) =
      let f : Reach t names from = reach_forth from r in
      reaching.held from at f (subst (λ o. Contains (held_refs object_refs o) at) (sym (same from r f)) k)

  pub reach_back : (at : ℕ) → Reach t names at → Reach s names at
  reach_back n (reaching.named x at c r) = reaching.named x at c (subst (λ o. Contains (held_refs value_refs o) at) (values x c) r)
  reach_back n (reaching.held from at r k) =
      let f : Reach s names from = reach_back from r in
      reaching.held from at f (subst (λ o. Contains (held_refs object_refs o) at) (same from f r) k)
