-- What a `for` goes over respects alikeness: its start, and what comes next.
use Rattle.std.proofs.Common.{◌≡◌, ℕ, ℤ, ◌+◌, ◌==◌, Bool, true, false, cond, List, [], length, Option, Some, None, refl, ap, subst}
use Rattle.std.specs.Prelude.{pos, codes}
use Rattle.py_value.specs.declared.key.Key.{Key}
use Rattle.py_value.specs.declared.value.Value.{Value}
use Rattle.py_value.specs.declared.value.Value.TheVariants as value
use Rattle.py_value.specs.Values.{is_zero}
use Rattle.py_heap.specs.declared.heap.Object.{Object}
use Rattle.py_heap.specs.References.{value_refs}
use Rattle.py_machine.specs.declared.iteration.Iteration.{Iteration}
use Rattle.py_machine.specs.declared.iteration.Iteration.TheVariants as iteration
use Rattle.py_machine.specs.Changes.{object_kind}
use Rattle.py_machine.specs.Rests.{first_cut}
use Rattle.py_machine.specs.Errors.{not_iterable, wrong_number, wrong_argument, zero_range_step, changed_size}
use Rattle.py_meaning.specs.Acts.{Act, pure, fail}
use Rattle.py_meaning.specs.Iterating.{object_iterated, not_iterated, iterated, ranged, range_of, Next, with_rest, next_item, key_in, next_key, first_in, next_character, is_before, following, next_number, advance}
use Rattle.py_laws.specs.Same.{equal, refs, PairsMatch, BothOrNone}
use Rattle.py_laws.proofs.Zipped.{zip_length, zip_get, Zips, no_more, one_more}
use Rattle.py_laws.proofs.Respecting.{Setting, Paired, IterationsMatch, over_items, over_keys, over_characters, over_range, Respects, next, pure_respects, fail_respects, choose_respects}
use Rattle.py_laws.proofs.LeastActs.{Values, object_at_respects, kind_of_respects}
use Rattle.py_laws.proofs.Slotted.{Kinds, lists, tuples, dicts, kinds, same_kind}
use Rattle.py_laws.proofs.Showing.{keys_match}
use Rattle.py_laws.proofs.Operating.{same_number}

module _ (c : Setting) where
  abbrev Over : Iteration → Iteration → Type 0
  Over = IterationsMatch (Paired c)

  abbrev pub Iterates : Act Iteration → Act Iteration → Type 0
  Iterates = Respects c (IterationsMatch (Paired c))

  -- ---- the start

  not_over : (o u : Option Object) → Kinds (Paired c) o u → Iterates (fail (not_iterable (object_kind o))) (fail (not_iterable (object_kind u)))
  not_over o u h = fail_respects c Over _ _ (ap (λ k. not_iterable k) (same_kind (Paired c) o u h))

  object_iterated_respects : (a b : ℕ) (o u : Option Object) → Paired c a b → Kinds (Paired c) o u → Iterates (object_iterated a o) (object_iterated b u)
  object_iterated_respects a b _ _ p (lists vs ws m) = pure_respects c Over (iteration.Items a 0) (iteration.Items b 0) (over_items a b 0 p)
  object_iterated_respects a b _ _ p (tuples vs ws m) = pure_respects c Over (iteration.Items a 0) (iteration.Items b 0) (over_items a b 0 p)
  object_iterated_respects a b _ _ p (dicts vs ws m) =
      pure_respects c Over (iteration.Keys a 0 (length vs)) (iteration.Keys b 0 (length ws))
      (subst (λ (n : ℕ). Over (iteration.Keys a 0 (length vs)) (iteration.Keys b 0 n)) (zip_length (PairsMatch (Paired c)) vs ws m) (over_keys a b 0 (length vs) p))
  object_iterated_respects a b o u p h = not_over o u h

  not_iterated_respects : (v w : Value) → Values c v w → Iterates (not_iterated v) (not_iterated w)
  unfolding not_iterated
  not_iterated_respects v w h = next c (kind_of_respects c v w h) λ i j e. fail_respects c Over (not_iterable i) (not_iterable j) (ap (λ k. not_iterable k) e)

  plain_iterated : (v : Value) → value_refs v ≡ [] → Iterates (iterated v) (iterated v)
  unfolding iterated
  plain_iterated (value.Text text) none = pure_respects c Over (iteration.Characters text) (iteration.Characters text) (over_characters text)
  plain_iterated (value.Ref at) none = cc
  plain_iterated v none = not_iterated_respects v v (equal v none)

  pub iterated_respects : (v w : Value) → Values c v w → Iterates (iterated v) (iterated w)
  unfolding iterated
  iterated_respects _ _ (equal v none) = plain_iterated v none
  iterated_respects _ _ (refs a b p) = next c (object_at_respects c a b p) λ o u h. object_iterated_respects a b o u p (kinds c o u h)

  no_range : Iterates (fail (wrong_argument (codes "range"))) (fail (wrong_argument (codes "range")))
  no_range = fail_respects c Over _ _ refl

  ranged_respects : (start stop by : Option ℤ) → Iterates (ranged start stop by) (ranged start stop by)
  ranged_respects (Some start) (Some stop) (Some by) =
      choose_respects c Over (is_zero by) (is_zero by) _ _ _ _ refl (fail_respects c Over zero_range_step zero_range_step refl)
      (pure_respects c Over (iteration.Range (Some start) stop by) (iteration.Range (Some start) stop by) (over_range (Some start) stop by))
  ranged_respects None stop by = no_range
  ranged_respects (Some start) None by = no_range
  ranged_respects (Some start) (Some stop) None = no_range

  ranges_respect : (a a' b b' d d' : Option ℤ) → a ≡ a' → b ≡ b' → d ≡ d' → Iterates (ranged a b d) (ranged a' b' d')
  ranges_respect a a' b b' d d' e f g =
      subst (λ x. Iterates (ranged a b d) (ranged x b' d')) e
      (subst (λ y. Iterates (ranged a b d) (ranged a y d')) f (subst (λ z. Iterates (ranged a b d) (ranged a b z)) g (ranged_respects a b d)))

  pub range_of_respects : (vs ws : List Value) → Zips (Values c) vs ws → Iterates (range_of vs) (range_of ws)
  range_of_respects _ _ (one_more v w _ _ h no_more) = ranges_respect (Some (pos 0)) (Some (pos 0)) _ _ (Some (pos 1)) (Some (pos 1)) refl (same_number c v w h) refl
  range_of_respects _ _ (one_more v w _ _ h (one_more x y _ _ k no_more)) = ranges_respect _ _ _ _ (Some (pos 1)) (Some (pos 1)) (same_number c v w h) (same_number c x y k) refl
  range_of_respects _ _ (one_more v w _ _ h (one_more x y _ _ k (one_more r s _ _ m no_more))) = ranges_respect _ _ _ _ _ _ (same_number c v w h) (same_number c x y k) (same_number c r s m)
  range_of_respects vs ws _ = fail_respects c Over (wrong_number (codes "range")) (wrong_number (codes "range")) refl

  -- ---- what comes next

  abbrev Comes : Value × Iteration → Value × Iteration → Type 0
  Comes x y = Values c x.0 y.0 × IterationsMatch (Paired c) x.1 y.1

  abbrev pub Nexts : Next → Next → Type 0
  Nexts = BothOrNone Comes

  with_rest_match : (o u : Option Value) (r s : Iteration) → BothOrNone (Values c) o u → Over r s → Nexts (with_rest o r) (with_rest u s)
  with_rest_match (Some v) (Some w) r s h k = (h, k)
  with_rest_match None None r s h k = tt
  with_rest_match (Some v) None r s h k = absurd h
  with_rest_match None (Some w) r s h k = absurd h

  no_next : Respects c Nexts (pure None) (pure None)
  no_next = pure_respects c Nexts None None tt

  next_item_respects : (a b n : ℕ) (o u : Option Object) → Paired c a b → Kinds (Paired c) o u → Respects c Nexts (next_item a n o) (next_item b n u)
  next_item_respects a b n _ _ p (lists vs ws m) = pure_respects c Nexts _ _ (with_rest_match _ _ _ _ (zip_get (Values c) n vs ws m) (over_items a b (n + 1) p))
  next_item_respects a b n _ _ p (tuples vs ws m) = pure_respects c Nexts _ _ (with_rest_match _ _ _ _ (zip_get (Values c) n vs ws m) (over_items a b (n + 1) p))
  next_item_respects a b n o u p _ = no_next

  keys_in_match : (o u : Option (Key × Value)) → BothOrNone (PairsMatch (Paired c)) o u → BothOrNone (Values c) (key_in o) (key_in u)
  keys_in_match (Some x) (Some y) h = keys_match c x.0 y.0 h.0
  keys_in_match None None h = tt
  keys_in_match (Some x) None h = absurd h
  keys_in_match None (Some y) h = absurd h

  next_key_respects : (a b n size : ℕ) (o u : Option Object) → Paired c a b → Kinds (Paired c) o u → Respects c Nexts (next_key a n size o) (next_key b n size u)
  next_key_respects a b n size _ _ p (dicts vs ws m) =
      choose_respects c Nexts (length vs == size) (length ws == size) _ _ _ _ (ap (λ (l : ℕ). l == size) (zip_length (PairsMatch (Paired c)) vs ws m))
      (pure_respects c Nexts _ _ (with_rest_match _ _ _ _ (keys_in_match _ _ (zip_get (PairsMatch (Paired c)) n vs ws m)) (over_keys a b (n + 1) size p)))
      (fail_respects c Nexts changed_size changed_size refl)
  next_key_respects a b n size o u p _ = no_next

  first_match : (o : Option (List ℕ × List ℕ)) → Nexts (first_in o) (first_in o)
  first_match (Some cut) = (equal (value.Text cut.0) refl, over_characters cut.1)
  first_match None = tt

  next_character_match : (text : List ℕ) → Nexts (next_character text) (next_character text)
  next_character_match text = first_match (first_cut text)

  number_comes : (b : Bool) (n : ℤ) (rest : Iteration) → Over rest rest → Nexts (cond b (Some (value.Number n, rest)) None) (cond b (Some (value.Number n, rest)) None)
  number_comes true n rest h = (equal (value.Number n) refl, h)
  number_comes false n rest h = tt

  next_number_match : (n : Option ℤ) (stop by : ℤ) → Nexts (next_number n stop by) (next_number n stop by)
  next_number_match None stop by = tt
  next_number_match (Some n) stop by = number_comes (is_before n stop by) n (iteration.Range (following n by) stop by) (over_range (following n by) stop by)

  pub advance_respects : (r s : Iteration) → IterationsMatch (Paired c) r s → Respects c Nexts (advance r) (advance s)
  unfolding advance
  advance_respects _ _ (over_items a b n p) = next c (object_at_respects c a b p) λ o u h. next_item_respects a b n o u p (kinds c o u h)
  advance_respects _ _ (over_keys a b n size p) = next c (object_at_respects c a b p) λ o u h. next_key_respects a b n size o u p (kinds c o u h)
  advance_respects _ _ (over_characters text) = pure_respects c Nexts _ _ (next_character_match text)
  advance_respects _ _ (over_range n stop by) = pure_respects c Nexts _ _ (next_number_match n stop by)
