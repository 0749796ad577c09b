-- Names that are in a state as in another are so still after a step that doesn't touch them, if no name that the step touches
-- comes to reach their objects.
use Rattle.std.proofs.Common.{◌≡◌, ℕ, List, [], ◌∷◌, refl, sym, subst}
use Rattle.std.specs.Prelude.{Contains, slice_get}
use Rattle.std.specs.FinMap as finite
use Rattle.py_heap.specs.declared.state.State.{State}
use Rattle.py_heap.specs.References.{IsClosed}
use Rattle.py_heap.specs.Reaching.{Reach}
use Rattle.py_machine.specs.Runs.{Name}
use Rattle.py_laws.specs.Same.{HasPair, ValuesMatch, ObjectsMatch, BothOrNone, Both, Same}
use Rattle.py_laws.proofs.Sameness.{same_through}
use Rattle.py_laws.proofs.Joining.{reached_only}
use Rattle.py_laws.proofs.Partners.{one_in}
use Rattle.linked_parts.specs.Parts.{Reaches}
use Rattle.run_graph.specs.Soundness.{StandsIn}
use Rattle.run_graph.proofs.Reached.{reach_from_one, reach_by_one, reach_back}
use Rattle.replay_laws.specs.Walks.{with_meter}

module _ (Touched : Name → Type 0) (t u : State) (closed : IsClosed t)
    (values : (z : Name) → ¬ Touched z → finite.get u.globals z ≡ finite.get t.globals z)
    (objects : (z : Name) → ¬ Touched z → (at : ℕ) → Reaches t z at → slice_get u.heap at ≡ slice_get t.heap at) where
  -- a name that isn't touched reaches what it reached
  pub untouched_back : (z : Name) → ¬ Touched z → (at : ℕ) → Reaches u z at → Reaches t z at
  untouched_back z k = reach_back t u (z ∷ [])
      (λ y n. subst (λ w. finite.get u.globals w ≡ finite.get t.globals w) (one_in z y n) (values z k))
      (λ at r q. objects z k at r)

  module _ (names : List Name) (untouched : (z : Name) → Contains names z → ¬ Touched z) where
    names_back : (at : ℕ) → Reach u names at → Reach t names at
    names_back at r =
        let w = reach_from_one u names at r in
        reach_by_one t names w.0 at w.1 (untouched_back w.0 (untouched w.0 w.1) at w.2)

    object_stays : (at : ℕ) → Reach t names at → slice_get u.heap at ≡ slice_get t.heap at
    object_stays at r = let w = reach_from_one t names at r in objects w.0 (untouched w.0 w.1) at w.2

    same_stays : (s : State) → IsClosed s → Same (Contains names) s t → Same (Contains names) s u
    same_stays s c h =
        let k = reached_only names s t c closed h in
        record {
          by = k.by;
          same = record {
            pairs = k.same.pairs;
            names = λ x n. subst (λ o. BothOrNone (ValuesMatch (HasPair k.by)) (finite.get s.globals x) o) (sym (values x (untouched x n))) (k.same.names x n);
            objects = λ a b p. subst (λ o. Both (ObjectsMatch (HasPair k.by)) (slice_get s.heap a) o) (sym (object_stays b (k.right a b p))) (k.same.objects a b p);
          };
        }

    pub stands_still : ((y : Name) (at : ℕ) → Touched y → Reach u names at → ¬ Reaches u y at) → (s : State) → IsClosed s → StandsIn s t names → StandsIn s u names
    stands_still apart s c h = (
      same_stays s c h.0,
      λ at q z out rz.
          let k : ¬ Touched z = λ w. apart z at w q rz in
          h.1 at (names_back at q) z out (untouched_back z k at rz),
    )

abbrev NoName : Name → Type 0
NoName x = ⊥

-- the meter doesn't matter
pub stands_with_meter : (names : List Name) (s t : State) (m : ℕ) → IsClosed s → IsClosed t → StandsIn s t names → StandsIn s (with_meter t m) names
stands_with_meter names s t m c closed h =
    stands_still NoName t (with_meter t m) closed (λ z k. refl) (λ z k at r. refl) names (λ z n k. k) (λ y at k q r. k) s c h

-- what is in t as in s is in t as in a state that is the same as s
pub stands_from : (names : List Name) (r s t : State) → Same (Contains names) r s → StandsIn s t names → StandsIn r t names
stands_from names r s t k h = (same_through (Contains names) r s t k h.0, h.1)
