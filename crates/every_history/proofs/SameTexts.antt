-- States that are the same have the same texts.
use Rattle.std.proofs.Common.{◌≡◌, ℕ, List, Option, Some, None, refl, sym, ap, ◌∙◌, inl, inr, subst}
use Rattle.std.specs.Prelude.{Contains, slice_get}
use Rattle.std.specs.List.{AllZip}
use Rattle.std.specs.FinMap as finite
use Rattle.std.proofs.lemmas.Option.{none-some, same_Some}
use Rattle.py_value.specs.declared.key.Key.{Key}
use Rattle.py_value.specs.declared.value.Value.{Value}
use Rattle.py_value.specs.declared.value.Value.TheVariants as value
use Rattle.py_heap.specs.declared.heap.Object.{Object}
use Rattle.py_heap.specs.declared.heap.Object.TheVariants as object
use Rattle.py_heap.specs.declared.state.State.{State}
use Rattle.py_laws.specs.Same.{HasPair, ValuesMatch, equal, refs, PairsMatch, ObjectsMatch, BothOrNone, Both, Same, Every}
use Rattle.py_laws.proofs.Partners.{reach_partner}
use Rattle.history_graph.specs.Texts.{IsOfPair, HasText, IsTextIn}
use Rattle.history_graph.proofs.Leaving.{zip_forth}

-- ---- what matches has the same texts

module _ (ps : ℕ → ℕ → Type 0) where
  value_text : (v w : Value) (t : List ℕ) → ValuesMatch ps v w → v ≡ value.Text t → w ≡ value.Text t
  value_text _ _ t (equal v none) e = e
  value_text _ _ t (refs a b p) e = let none : ⊥ = cc e in absurd none

  items_text : (vs ws : List Value) (t : List ℕ) → AllZip (ValuesMatch ps) vs ws → Contains vs (value.Text t) → Contains ws (value.Text t)
  items_text vs ws t m c =
      let w = zip_forth (ValuesMatch ps) vs ws m (value.Text t) c in
      subst (λ v. Contains ws v) (value_text (value.Text t) w.0 t w.2 refl) w.1

  pair_text : (p q : Key × Value) (t : List ℕ) → PairsMatch ps p q → IsOfPair p t → IsOfPair q t
  pair_text p q t m (inl k) = inl (sym m.0 ∙ k)
  pair_text p q t m (inr v) = inr (value_text p.1 q.1 t m.1 v)

  object_text : (o u : Object) (t : List ℕ) → ObjectsMatch ps o u → HasText o t → HasText u t
  object_text (object.List vs) (object.List ws) t m h = items_text vs ws t m h
  object_text (object.Tuple vs) (object.Tuple ws) t m h = items_text vs ws t m h
  object_text (object.Dict xs) (object.Dict ys) t m h = let w = zip_forth (PairsMatch ps) xs ys m h.0 h.1 in (w.0, w.1, pair_text h.0 w.0 t w.2 h.2)
  object_text (object.Function def) (object.Function other) t m h = subst (λ d. HasText (object.Function d) t) m h
  object_text (object.Handle name uses) (object.Handle other others) t m h = h ∙ m.0
  object_text (object.List vs) (object.Tuple ws) t m h = absurd m
  object_text (object.Tuple vs) (object.List ws) t m h = absurd m
  object_text (object.Tuple vs) (object.Dict ys) t m h = absurd m
  object_text (object.Tuple vs) (object.Function other) t m h = absurd m
  object_text (object.Tuple vs) (object.Handle other others) t m h = absurd m
  object_text (object.Dict xs) (object.Tuple ws) t m h = absurd m
  object_text (object.Function def) (object.Tuple ws) t m h = absurd m
  object_text (object.Handle name uses) (object.Tuple ws) t m h = absurd m
  object_text (object.List vs) (object.Dict ys) t m h = absurd m
  object_text (object.List vs) (object.Function other) t m h = absurd m
  object_text (object.List vs) (object.Handle other others) t m h = absurd m
  object_text (object.Dict xs) (object.List ws) t m h = absurd m
  object_text (object.Dict xs) (object.Function other) t m h = absurd m
  object_text (object.Dict xs) (object.Handle other others) t m h = absurd m
  object_text (object.Function def) (object.List ws) t m h = absurd m
  object_text (object.Function def) (object.Dict ys) t m h = absurd m
  object_text (object.Function def) (object.Handle other others) t m h = absurd m
  object_text (object.Handle name uses) (object.List ws) t m h = absurd m
  object_text (object.Handle name uses) (object.Dict ys) t m h = absurd m
  object_text (object.Handle name uses) (object.Function other) t m h = absurd m

  both_text : (o u : Option Object) (t : List ℕ) → Both (ObjectsMatch ps) o u → (x : Object) → o ≡ Some x → HasText x t → (y : Object) × (u ≡ Some y) × HasText y t
  both_text (Some o) (Some u) t m x e h = (u, refl, object_text o u t m (subst (λ z. HasText z t) (sym (same_Some o x e)) h))
  both_text (Some o) None t m x e h = absurd m
  both_text None u t m x e h = absurd (none-some x e)

  named_text : (o u : Option Value) (t : List ℕ) → BothOrNone (ValuesMatch ps) o u → o ≡ Some (value.Text t) → u ≡ Some (value.Text t)
  named_text (Some v) (Some w) t m e = ap (λ z. Some z) (value_text v w t m (same_Some v (value.Text t) e))
  named_text (Some v) None t m e = absurd m
  named_text None u t m e = absurd (none-some (value.Text t) e)

-- ---- the texts of a state

pub same_text : (s u : State) → Same Every s u → (t : List ℕ) → IsTextIn s t → IsTextIn u t
same_text s u same t (inl h) = inl (h.0, named_text (HasPair same.by) (finite.get s.globals h.0) (finite.get u.globals h.0) t (same.same.names h.0 tt) h.1)
same_text s u same t (inr h) =
    let p = reach_partner (HasPair same.by) Every s u same.same h.0 tt h.1 h.2 in
    let w = both_text (HasPair same.by) (slice_get s.heap h.1) (slice_get u.heap p.0) t (same.same.objects h.1 p.0 p.1) h.3.0 h.3.1 h.3.2 in
    inr (h.0, p.0, p.2, w)
