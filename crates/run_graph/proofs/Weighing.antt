-- What a version tells of its part: a handle in it or none, and the length of its text.
use Rattle.std.proofs.Common.{◌≡◌, ℕ, Bool, true, false, List, Option, Some, None, refl, sym, ap, ◌∙◌, subst}
use Rattle.std.specs.Prelude.{Contains, slice_get, ◌↔◌}
use Rattle.py_heap.specs.declared.heap.Object.{Object}
use Rattle.py_heap.specs.declared.heap.Object.TheVariants as object
use Rattle.py_heap.specs.declared.state.State.{State}
use Rattle.py_machine.specs.Runs.{Name}
use Rattle.py_laws.specs.Same.{HasPair, ObjectsMatch, Both, Same}
use Rattle.py_laws.proofs.Partners.{reach_partner}
use Rattle.py_laws.proofs.Sameness.{same_turned}
use Rattle.graph_model.specs.declared.graph.Version.{Version}
use Rattle.run_graph.specs.Parts.{HasHandle}
use Rattle.run_graph.specs.Histories.{Run, IsWeighed}
use Rattle.run_graph.proofs.Reached.{reach_from_one, reach_by_one}

-- ---- handles

-- what matches a handle is one
handle_matches : (ps : ℕ → ℕ → Type 0) (name : List ℕ) (uses : ℕ) (o u : Option Object) → o ≡ Some (object.Handle name uses) → Both (ObjectsMatch ps) o u
    → (other : List ℕ) × (others : ℕ) × (u ≡ Some (object.Handle other others))
handle_matches ps name uses _ (Some (object.Handle other others)) e m = (other, others, refl)
handle_matches ps name uses _ (Some (object.List items)) e m = absurd (let none : ⊥ = subst (λ o. Both (ObjectsMatch ps) o (Some (object.List items))) e m in none)
handle_matches ps name uses _ (Some (object.Tuple items)) e m = absurd (let none : ⊥ = subst (λ o. Both (ObjectsMatch ps) o (Some (object.Tuple items))) e m in none)
handle_matches ps name uses _ (Some (object.Dict pairs)) e m = absurd (let none : ⊥ = subst (λ o. Both (ObjectsMatch ps) o (Some (object.Dict pairs))) e m in none)
handle_matches ps name uses _ (Some (object.Function def)) e m = absurd (let none : ⊥ = subst (λ o. Both (ObjectsMatch ps) o (Some (object.Function def))) e m in none)
handle_matches ps name uses _ None e m = absurd (let none : ⊥ = subst (λ o. Both (ObjectsMatch ps) o None) e m in none)

pub handle_too : (names : List Name) (s t : State) → Same (Contains names) s t → HasHandle s names → HasHandle t names
handle_too names s t same (at, name, uses, reached, held) =
    let one = reach_from_one s names at reached in
    let w = reach_partner (HasPair same.by) (Contains names) s t same.same one.0 one.1 at one.2 in
    let h = handle_matches (HasPair same.by) name uses (slice_get s.heap at) (slice_get t.heap w.0) held (same.same.objects at w.0 w.1) in
    (w.0, h.0, h.1, reach_by_one t names one.0 w.0 one.1 w.2, h.2)

pub handles_alike : (names : List Name) (s t : State) → Same (Contains names) s t → HasHandle s names ↔ HasHandle t names
handles_alike names s t same = (handle_too names s t same, handle_too names t s (same_turned (Contains names) s t same))

-- ---- weights

pub same_truth : (a b : Bool) (P : Type 0) → ((a ≡ true) ↔ P) → ((b ≡ true) ↔ P) → a ≡ b
same_truth true true P h k = refl
same_truth true false P h k = sym (k.1 (h.0 refl))
same_truth false true P h k = h.1 (k.0 refl)
same_truth false false P h k = refl

-- another version with the same names, handle and size
pub weighed_alike : (r : Run) (c : ℕ) (x y : Version) → y.names ≡ x.names → y.handle ≡ x.handle → y.size ≡ x.size → IsWeighed r c x → IsWeighed r c y
weighed_alike r c x y names handle size w = (
  subst (λ (ns : List Name). (y.handle ≡ true) ↔ HasHandle (r.state c) ns) (sym names) (subst (λ (b : Bool). (b ≡ true) ↔ HasHandle (r.state c) x.names) (sym handle) w.0),
  size ∙ (w.1 ∙ ap (λ ns. r.size c ns) (sym names)),
)

-- the same version after another cell, if its names are the same
pub weighed_later : (r : Run) (c d : ℕ) (x : Version) → Same (Contains x.names) (r.state c) (r.state d) → r.size c x.names ≡ r.size d x.names → IsWeighed r c x → IsWeighed r d x
weighed_later r c d x same size w =
    let h = handles_alike x.names (r.state c) (r.state d) same in
    ((λ e. h.0 (w.0.0 e), λ k. w.0.1 (h.1 k)), w.1 ∙ size)
