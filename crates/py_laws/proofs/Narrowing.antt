-- The same by pairs is the same by those of them that are reached.
use Rattle.std.proofs.Common.{ℕ, List, [], ◌∷◌, Option, Some, None, refl, arith}
use Rattle.std.specs.Prelude.{Contains}
use Rattle.std.specs.List.{AllZip, flat_map}
use Rattle.std.proofs.lemmas.List.Elements.{Contains-append_left, Contains-append_right}
use Rattle.py_value.specs.declared.key.Key.{Key}
use Rattle.py_value.specs.declared.value.Value.{Value}
use Rattle.py_heap.specs.declared.heap.Object.{Object}
use Rattle.py_heap.specs.declared.heap.Object.TheVariants as object
use Rattle.py_heap.specs.declared.state.State.{State}
use Rattle.py_heap.specs.References.{value_refs, pair_refs, object_refs}
use Rattle.py_heap.specs.Reaching.{held_refs, Reach}
use Rattle.py_heap.specs.Reaching as reaching
use Rattle.py_machine.specs.Runs.{Name}
use Rattle.py_laws.specs.Same.{ValuesMatch, equal, refs, PairsMatch, ObjectsMatch, BothOrNone, Both, SameBy}

module _ (ps : ℕ → ℕ → Type 0) (P Q : ℕ → Type 0) where
  abbrev pub Narrow : ℕ → ℕ → Type 0
  Narrow a b = ps a b × P a × Q b

  -- each address of the first has P, and each of the second Q
  abbrev Each : List ℕ → List ℕ → Type 0
  Each lefts rights = ((a : ℕ) → Contains lefts a → P a) × ((b : ℕ) → Contains rights b → Q b)

  value : (v w : Value) → Each (value_refs v) (value_refs w) → ValuesMatch ps v w → ValuesMatch Narrow v w
  value _ _ k (equal v n) = equal v n
  value _ _ k (refs a b h) = refs a b (h, k.0 a (0, omega arith, refl), k.1 b (0, omega arith, refl))

  items : (vs ws : List Value) → Each (flat_map value_refs vs) (flat_map value_refs ws) → AllZip (ValuesMatch ps) vs ws → AllZip (ValuesMatch Narrow) vs ws
  items [] [] k h = tt
  items (v ∷ vs) (w ∷ ws) k h = (
    value v w (λ a r. k.0 a (Contains-append_left (value_refs v) (flat_map value_refs vs) a r), λ b r. k.1 b (Contains-append_left (value_refs w) (flat_map value_refs ws) b r)) h.0,
    items vs ws (λ a r. k.0 a (Contains-append_right (value_refs v) (flat_map value_refs vs) a r), λ b r. k.1 b (Contains-append_right (value_refs w) (flat_map value_refs ws) b r)) h.1,
  )
  items [] (w ∷ ws) k h = absurd h
  items (v ∷ vs) [] k h = absurd h

  pairs : (vs ws : List (Key × Value)) → Each (flat_map pair_refs vs) (flat_map pair_refs ws) → AllZip (PairsMatch ps) vs ws → AllZip (PairsMatch Narrow) vs ws
  pairs [] [] k h = tt
  pairs (v ∷ vs) (w ∷ ws) k h = (
    (h.0.0, value v.1 w.1 (λ a r. k.0 a (Contains-append_left (pair_refs v) (flat_map pair_refs vs) a r), λ b r. k.1 b (Contains-append_left (pair_refs w) (flat_map pair_refs ws) b r)) h.0.1),
    pairs vs ws (λ a r. k.0 a (Contains-append_right (pair_refs v) (flat_map pair_refs vs) a r), λ b r. k.1 b (Contains-append_right (pair_refs w) (flat_map pair_refs ws) b r)) h.1,
  )
  pairs [] (w ∷ ws) k h = absurd h
  pairs (v ∷ vs) [] k h = absurd h

  narrow_held : (o u : Option Value) → Each (held_refs value_refs o) (held_refs value_refs u) → BothOrNone (ValuesMatch ps) o u → BothOrNone (ValuesMatch Narrow) o u
  narrow_held None None k h = tt
  narrow_held (Some v) (Some w) k h = value v w k h
  narrow_held None (Some w) k h = absurd h
  narrow_held (Some v) None k h = absurd h

  narrow_object : (o u : Option Object) → Each (held_refs object_refs o) (held_refs object_refs u) → Both (ObjectsMatch ps) o u → Both (ObjectsMatch Narrow) o u
  narrow_object (Some (object.List vs)) (Some (object.List ws)) k h = items vs ws k h
  narrow_object (Some (object.Tuple vs)) (Some (object.Tuple ws)) k h = items vs ws k h
  narrow_object (Some (object.Dict vs)) (Some (object.Dict ws)) k h = pairs vs ws k h
  narrow_object (Some (object.Function def)) (Some (object.Function other)) k h = h
  narrow_object (Some (object.Handle name uses)) (Some (object.Handle other others)) k h = h
  narrow_object (Some _) (Some _) k h = absurd h
  narrow_object (Some o) None k h = absurd h
  narrow_object None u k h = absurd h

pub reached_same : (ps : ℕ → ℕ → Type 0) (names : List Name) (s t : State) → SameBy ps (Contains names) s t → SameBy (Narrow ps (Reach s names) (Reach t names)) (Contains names) s t
reached_same ps names s t h = record {
  pairs = record { left = λ a b c p q. h.pairs.left a b c p.0 q.0; right = λ a b c p q. h.pairs.right a b c p.0 q.0 };
  names = λ name n. narrow_held ps (Reach s names) (Reach t names) _ _ (λ a r. reaching.named name a n r, λ b r. reaching.named name b n r) (h.names name n);
  objects = λ a b p. narrow_object ps (Reach s names) (Reach t names) _ _ (λ d r. reaching.held a d p.1 r, λ d r. reaching.held b d p.2 r) (h.objects a b p.0);
}
