-- Sameness is symmetric and transitive, and a closed state is the same as itself.
use Rattle.std.proofs.Common.{◌≡◌, ℕ, ◌<◌, List, [], length, get_or, Option, Some, None, refl, sym, ◌∙◌, subst, arith}
use Rattle.std.specs.Prelude.{Contains, slice_get}
use Rattle.std.specs.FinMap as finite
use Rattle.std.proofs.lemmas.Option.{slice_get-get_or}
use Rattle.std.proofs.lemmas.List.Elements.{All-contains}
use Rattle.py_value.specs.declared.value.Value.{Value}
use Rattle.py_heap.specs.declared.heap.Object.{Object}
use Rattle.py_heap.specs.declared.heap.Object.TheVariants as object
use Rattle.py_heap.specs.declared.state.State.{State}
use Rattle.py_heap.specs.References.{value_refs, object_refs, AreLive, IsClosed}
use Rattle.py_heap.specs.Reaching.{held_refs}
use Rattle.py_machine.specs.Runs.{Name}
use Rattle.py_laws.specs.Same.{HasPair, IsOneToOne, ValuesMatch, ObjectsMatch, Both, SameBy, Same, Every, SameStates}
use Rattle.py_laws.proofs.Matching.{BothOrNone-more, BothOrNone-turned, BothOrNone-through, Both-more, Both-turned, Both-through, IsWithin, Turned, Through, more_value, more_object, turned_value, turned_object, value_through, object_through, object_itself, held_itself}
use Rattle.py_laws.proofs.Pairing.{turned_pairs, to_turned, from_turned, pairs_through, to_through, from_through, with_themselves, to_themselves, from_themselves}

-- the same by pairs is the same by a relation of the same pairs
pub same_by_agreeing : (ps qs : ℕ → ℕ → Type 0) (named : Name → Type 0) (s t : State) → IsWithin ps qs → IsWithin qs ps → SameBy ps named s t → SameBy qs named s t
same_by_agreeing ps qs named s t to from h = record {
  pairs = record { left = λ a b c p q. h.pairs.left a b c (from a b p) (from a c q); right = λ a b c p q. h.pairs.right a b c (from a c p) (from b c q) };
  names = λ name n. BothOrNone-more (ValuesMatch ps) (ValuesMatch qs) (more_value ps qs to) _ _ (h.names name n);
  objects = λ a b p. Both-more (ObjectsMatch ps) (ObjectsMatch qs) (more_object ps qs to) _ _ (h.objects a b (from a b p));
}

-- ---- symmetry

pub same_by_turned : (ps : ℕ → ℕ → Type 0) (named : Name → Type 0) (s t : State) → SameBy ps named s t → SameBy (Turned ps) named t s
same_by_turned ps named s t h = record {
  pairs = record { left = λ a b c p q. h.pairs.right b c a p q; right = λ a b c p q. h.pairs.left c a b p q };
  names = λ name n. BothOrNone-turned (ValuesMatch ps) (ValuesMatch (Turned ps)) (turned_value ps) _ _ (h.names name n);
  objects = λ a b p. Both-turned (ObjectsMatch ps) (ObjectsMatch (Turned ps)) (turned_object ps) _ _ (h.objects b a p);
}

pub same_turned : (named : Name → Type 0) (s t : State) → Same named s t → Same named t s
same_turned named s t h = record {
  by = turned_pairs h.by;
  same = same_by_agreeing (Turned (HasPair h.by)) (HasPair (turned_pairs h.by)) named t s (λ a b p. to_turned h.by b a p) (λ a b p. from_turned h.by b a p)
      (same_by_turned (HasPair h.by) named s t h.same);
}

pub states_turned : (s t : State) → SameStates s t → SameStates t s
states_turned s t h = record { names = same_turned Every s t h.names; count = sym h.count; meter = sym h.meter }

-- ---- transitivity

through_one : (ps qs : ℕ → ℕ → Type 0) → IsOneToOne ps → IsOneToOne qs → IsOneToOne (Through ps qs)
through_one ps qs h g = record {
  left = λ a b c p q. g.left q.0 b c (subst (λ x. qs x b) (h.left a p.0 q.0 p.1 q.1) p.2) q.2;
  right = λ a b c p q. h.right a b q.0 (subst (λ x. ps a x) (g.right p.0 q.0 c p.2 q.2) p.1) q.1;
}

same_by_through : (ps qs : ℕ → ℕ → Type 0) (named : Name → Type 0) (s t u : State) → SameBy ps named s t → SameBy qs named t u → SameBy (Through ps qs) named s u
same_by_through ps qs named s t u h g = record {
  pairs = through_one ps qs h.pairs g.pairs;
  names = λ name n. BothOrNone-through (ValuesMatch ps) (ValuesMatch qs) (ValuesMatch (Through ps qs)) (value_through ps qs) _ (finite.get t.globals name) _ (h.names name n) (g.names name n);
  objects = λ a c p. Both-through (ObjectsMatch ps) (ObjectsMatch qs) (ObjectsMatch (Through ps qs)) (object_through ps qs) _ (slice_get t.heap p.0) _ (h.objects a p.0 p.1) (g.objects p.0 c p.2);
}

pub same_through : (named : Name → Type 0) (s t u : State) → Same named s t → Same named t u → Same named s u
same_through named s t u h g = record {
  by = pairs_through h.by g.by;
  same = same_by_agreeing (Through (HasPair h.by) (HasPair g.by)) (HasPair (pairs_through h.by g.by)) named s u (to_through h.by g.by) (from_through h.by g.by)
      (same_by_through (HasPair h.by) (HasPair g.by) named s t u h.same g.same);
}

pub states_through : (s t u : State) → SameStates s t → SameStates t u → SameStates s u
states_through s t u h g = record { names = same_through Every s t u h.names g.names; count = h.count ∙ g.count; meter = h.meter ∙ g.meter }

-- ---- with itself: each address of an object is paired with itself, and a closed state names no other

module _ (s : State) (c : IsClosed s) where
  abbrev pub Itself : ℕ → ℕ → Type 0
  Itself = HasPair (with_themselves (length s.heap))

  live : (at : ℕ) (refs : List ℕ) → AreLive s.heap refs → Contains refs at → Itself at at
  live at refs l h = to_themselves (length s.heap) at (All-contains (λ a. a < length s.heap) refs at l h)

  live_name : (name : Name) (o : Option Value) → finite.get s.globals name ≡ o → (at : ℕ) → Contains (held_refs value_refs o) at → Itself at at
  live_name name (Some held) e at h = live at (value_refs held) (c.names name held e) h
  live_name name None e at h = live at [] (λ k d l. let no : ⊥ = omega (arith, l) in absurd no) h

  own_object : (a : ℕ) → a < length s.heap → Both (ObjectsMatch Itself) (slice_get s.heap a) (slice_get s.heap a)
  own_object a l =
      let own : Object = get_or s.heap a (object.List []) in
      rw (slice_get-get_or s.heap a (object.List []) l) (object_itself Itself own (λ at h. live at (object_refs own) (c.objects a (object.List []) l) h))

  pub same_by_itself : (named : Name → Type 0) → SameBy Itself named s s
  same_by_itself named = record {
    pairs = record {
      left = λ a b x p q. sym (from_themselves _ a b p).0 ∙ (from_themselves _ a x q).0;
      right = λ a b x p q. (from_themselves _ a x p).0 ∙ sym (from_themselves _ b x q).0;
    };
    names = λ name n. held_itself Itself (finite.get s.globals name) (live_name name (finite.get s.globals name) refl);
    objects = λ a b p.
        let e = from_themselves (length s.heap) a b p in
        subst (λ x. Both (ObjectsMatch Itself) (slice_get s.heap a) (slice_get s.heap x)) e.0 (own_object a e.1);
  }

  pub same_itself : (named : Name → Type 0) → Same named s s
  same_itself named = record { by = with_themselves (length s.heap); same = same_by_itself named }

  pub states_themselves : SameStates s s
  states_themselves = record { names = same_itself Every; count = refl; meter = refl }
