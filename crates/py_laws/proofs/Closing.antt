-- A cell keeps a state closed: two runs from it, with each object paired with itself, end in a state whose references are
-- paired too.
use Rattle.std.proofs.Common.{ℕ, ◌-◌, ◌<◌, List, [], ◌∷◌, length, get_or, Some, refl, sym, inl, inr, subst, arith}
use Rattle.std.specs.Prelude.{All}
use Rattle.std.specs.List.{AllZip, flat_map}
use Rattle.std.proofs.lemmas.Bool.{cases_lt}
use Rattle.std.proofs.lemmas.Option.{slice_get-get_or}
use Rattle.std.proofs.lemmas.List.Elements.{All-nil, All-cons, All-append}
use Rattle.nb_outside.specs.declared.feed.Drawn.{Drawn}
use Rattle.py_tree.specs.declared.statements.Stmt.{Stmt}
use Rattle.py_value.specs.declared.key.Key.{Key}
use Rattle.py_value.specs.declared.value.Value.{Value}
use Rattle.py_heap.specs.declared.heap.Object.{Object}
use Rattle.py_heap.specs.declared.heap.Object.TheVariants as object
use Rattle.py_heap.specs.declared.state.State.{State}
use Rattle.py_heap.specs.References.{value_refs, pair_refs, object_refs, IsClosed}
use Rattle.py_meaning.specs.Cells.{outcome, end_state}
use Rattle.py_laws.specs.Same.{ValuesMatch, equal, refs, PairsMatch, ObjectsMatch, BothOrNone, Both, SameBy, Every}
use Rattle.py_laws.proofs.Pairing.{to_themselves}
use Rattle.py_laws.proofs.Sameness.{Itself, same_by_itself}
use Rattle.py_laws.proofs.Framing as framing
use Rattle.py_laws.specs.Framed.{OrBound}

module _ (ps : ℕ → ℕ → Type 0) (n : ℕ) (below : (a b : ℕ) → ps a b → a < n) where
  abbrev Below : List ℕ → Type 0
  Below ns = All (λ at. at < n) ns

  pub live_value : (v w : Value) → ValuesMatch ps v w → Below (value_refs v)
  live_value _ _ (equal v none) = subst Below (sym none) (All-nil (λ at. at < n))
  live_value _ _ (refs a b p) = All-cons (λ at. at < n) a [] (below a b p) (All-nil (λ at. at < n))

  live_items : (vs ws : List Value) → AllZip (ValuesMatch ps) vs ws → Below (flat_map value_refs vs)
  live_items [] ws h = All-nil (λ at. at < n)
  live_items (v ∷ vs) (w ∷ ws) h = All-append (λ at. at < n) (value_refs v) (flat_map value_refs vs) (live_value v w h.0) (live_items vs ws h.1)
  live_items (v ∷ vs) [] h = absurd h

  live_pairs : (vs ws : List (Key × Value)) → AllZip (PairsMatch ps) vs ws → Below (flat_map pair_refs vs)
  live_pairs [] ws h = All-nil (λ at. at < n)
  live_pairs (v ∷ vs) (w ∷ ws) h = All-append (λ at. at < n) (pair_refs v) (flat_map pair_refs vs) (live_value v.1 w.1 h.0.1) (live_pairs vs ws h.1)
  live_pairs (v ∷ vs) [] h = absurd h

  pub live_object : (o u : Object) → ObjectsMatch ps o u → Below (object_refs o)
  live_object (object.List vs) (object.List ws) h = live_items vs ws h
  live_object (object.Tuple vs) (object.Tuple ws) h = live_items vs ws h
  live_object (object.Dict vs) (object.Dict ws) h = live_pairs vs ws h
  live_object (object.List vs) _ h = absurd h
  live_object (object.Tuple vs) _ h = absurd h
  live_object (object.Dict vs) _ h = absurd h
  live_object (object.Function def) u h = All-nil (λ at. at < n)
  live_object (object.Handle name uses) u h = All-nil (λ at. at < n)

module _ (body : List Stmt) (draws : List Drawn) (s : State) (c : IsClosed s) where
  abbrev After : State
  After = end_state body s draws

  abbrev Ended : ℕ → ℕ → Type 0
  Ended = framing.All Every body draws s s refl (λ name l. tt) (Itself s c) (same_by_itself s c Every)

  same_end : SameBy Ended (OrBound Every (outcome body s draws).1) After After
  same_end = framing.ended_same Every body draws s s refl (λ name l. tt) (Itself s c) (same_by_itself s c Every)

  live : (a b : ℕ) → Ended a b → a < length After.heap
  live a b p = (framing.live_pair Ended (OrBound Every (outcome body s draws).1) After After same_end a b p).0

  own : (a : ℕ) → a < length After.heap → Ended a a
  own a l = elim (cases_lt a (length s.heap)) [
    | inl old ↦ inl (to_themselves (length s.heap) a old)
    | inr new ↦ inr (a - length s.heap, omega (arith, l, new), omega (arith, new), omega (arith, new))
  ]

  pub closed_after : IsClosed After
  closed_after = record {
    names = λ name held e.
        let h : BothOrNone (ValuesMatch Ended) (Some held) (Some held) = subst (λ o. BothOrNone (ValuesMatch Ended) o o) e (same_end.names name (inl tt)) in
        live_value Ended (length After.heap) live held held h;
    objects = λ k d l.
        let o : Object = get_or After.heap k d in
        let h : Both (ObjectsMatch Ended) (Some o) (Some o) = subst (λ x. Both (ObjectsMatch Ended) x x) (slice_get-get_or After.heap k d l) (same_end.objects k k (own k l)) in
        live_object Ended (length After.heap) live o o h;
  }
