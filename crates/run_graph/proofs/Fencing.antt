-- What names reach that a cell neither looked up nor bound: nothing of it changes, and it meets nothing of the others.
use Rattle.std.proofs.Common.{◌≡◌, ℕ, ◌<◌, ◌≤◌, List, [], ◌∷◌, length, ◌⊎◌, inl, inr, subst, arith}
use Rattle.std.specs.Prelude.{Contains, slice_get}
use Rattle.std.specs.FinMap as finite
use Rattle.py_heap.specs.declared.state.State.{State}
use Rattle.py_heap.specs.References.{IsClosed}
use Rattle.py_heap.specs.Reaching.{Reach}
use Rattle.py_machine.specs.Runs.{Name}
use Rattle.py_laws.proofs.Partners.{one_in}
use Rattle.py_laws.proofs.Reached.{reached_live}
use Rattle.linked_parts.specs.Parts.{Reaches}
use Rattle.run_graph.proofs.Reached.{reach_forth, reach_back}

-- S is the state at the start, E that at the end, and Inside has the names looked up and those bound

module _ (S E : State) (closed : IsClosed S) (names : List Name) (Inside : Name → Type 0) (Changed : ℕ → Type 0)
    (values : (x : Name) → ¬ Inside x → finite.get E.globals x ≡ finite.get S.globals x)
    (objects : (at : ℕ) → at < length S.heap → ¬ Changed at → slice_get E.heap at ≡ slice_get S.heap at)
    (reached : (at : ℕ) → Changed at → Reach S names at ⊎ (length S.heap ≤ at))
    (fence : (x : Name) → Inside x → (at : ℕ) → Reaches E x at → Reach S names at ⊎ (length S.heap ≤ at))
    (outside : (x : Name) → ¬ Inside x → (at : ℕ) → Reaches S x at → ¬ Reach S names at) where
  module _ (x : Name) (out : ¬ Inside x) where
    pub unchanged : (at : ℕ) → Reaches S x at → ¬ Changed at
    unchanged at r c =
        let live = reached_live S closed (x ∷ []) at r in
        elim (reached at c) [
          | inl near ↦ outside x out at r near
          | inr new ↦ let none : ⊥ = omega (arith, live, new) in none
        ]

    pub same_object : (at : ℕ) → Reaches S x at → slice_get E.heap at ≡ slice_get S.heap at
    same_object at r = objects at (reached_live S closed (x ∷ []) at r) (unchanged at r)

    same_value : (y : Name) → Contains (x ∷ []) y → finite.get E.globals y ≡ finite.get S.globals y
    same_value y c = subst (λ z. finite.get E.globals z ≡ finite.get S.globals z) (one_in x y c) (values x out)

    pub to_end : (at : ℕ) → Reaches S x at → Reaches E x at
    to_end = reach_forth S E (x ∷ []) same_value (λ at r q. same_object at r)

    pub from_end : (at : ℕ) → Reaches E x at → Reaches S x at
    from_end = reach_back S E (x ∷ []) same_value (λ at r q. same_object at r)

    -- at the end it reaches nothing that a name inside reaches
    pub apart_at_end : (y : Name) → Inside y → (at : ℕ) → Reaches E x at → ¬ Reaches E y at
    apart_at_end y inside at r q =
        let before : Reaches S x at = from_end at r in
        let live = reached_live S closed (x ∷ []) at before in
        elim (fence y inside at q) [
          | inl near ↦ outside x out at before near
          | inr new ↦ let none : ⊥ = omega (arith, live, new) in none
        ]
