-- What a value is unpacked into respects alikeness.
use Rattle.std.proofs.Common.{◌≡◌, ℕ, ◌==◌, List, [], ◌∷◌, length, map, Option, Some, None, refl, ap, ap₂, subst}
use Rattle.std.specs.List.{AllZip}
use Rattle.std.specs.Str.{chars}
use Rattle.std.specs.Prelude.{encode_utf8}
use Rattle.py_value.specs.declared.value.Value.{Value}
use Rattle.py_value.specs.declared.value.Value.TheVariants as value
use Rattle.py_heap.specs.declared.heap.Object.{Object}
use Rattle.py_heap.specs.Dicts.{Pairs}
use Rattle.py_heap.specs.References.{value_refs}
use Rattle.py_machine.specs.Changes.{object_kind}
use Rattle.py_machine.specs.Errors.{not_unpacked, wrong_count}
use Rattle.py_meaning.specs.Acts.{Act, pure, fail}
use Rattle.py_meaning.specs.Operators.{steps}
use Rattle.py_meaning.specs.Unpacking.{keys_of, characters_of, counted, object_unpacked, nothing_unpacked, unpacked}
use Rattle.py_laws.specs.Same.{equal, refs}
use Rattle.py_laws.proofs.Zipped.{zip_length}
use Rattle.py_laws.proofs.Respecting.{Setting, Paired, Respects, Any, next, pure_respects, fail_respects, choose_respects}
use Rattle.py_laws.proofs.LeastActs.{Values, object_at_respects, kind_of_respects}
use Rattle.py_laws.proofs.Slotted.{Kinds, lists, tuples, dicts, kinds, same_kind}
use Rattle.py_laws.proofs.Showing.{keys_match}
use Rattle.py_laws.proofs.Operating.{steps_respect}
use Rattle.py_laws.proofs.Itemizing.{Entries}

module _ (c : Setting) where
  abbrev pub Unpacks : Act (List Value) → Act (List Value) → Type 0
  Unpacks = Respects c (AllZip (Values c))

  keys_zip : (vs ws : Pairs) → Entries c vs ws → AllZip (Values c) (keys_of vs) (keys_of ws)
  keys_zip [] [] h = tt
  keys_zip (v ∷ vs) (w ∷ ws) h = (keys_match c v.0 w.0 h.0.0, keys_zip vs ws h.1)
  keys_zip [] (w ∷ ws) h = absurd h
  keys_zip (v ∷ vs) [] h = absurd h

  texts_zip : (cs : List ℕ) → AllZip (Values c) (map (λ x. value.Text (encode_utf8 x)) cs) (map (λ x. value.Text (encode_utf8 x)) cs)
  texts_zip [] = tt
  texts_zip (x ∷ cs) = (equal (value.Text (encode_utf8 x)) refl, texts_zip cs)

  counted_respects : (n : ℕ) (vs ws : List Value) → AllZip (Values c) vs ws → Unpacks (counted n vs) (counted n ws)
  unfolding counted
  counted_respects n vs ws h =
      let same : length vs ≡ length ws = zip_length (Values c) vs ws h in
      choose_respects c (AllZip (Values c)) (length vs == n) (length ws == n) _ _ _ _ (ap (λ (l : ℕ). l == n) same)
      (next c (steps_respect c n n refl) λ _ _ _. pure_respects c (AllZip (Values c)) vs ws h)
      (fail_respects c (AllZip (Values c)) _ _ (ap (λ l. wrong_count n l) same))

  object_unpacked_respects : (n : ℕ) (o u : Option Object) → Kinds (Paired c) o u → Unpacks (object_unpacked n o) (object_unpacked n u)
  object_unpacked_respects n _ _ (lists vs ws m) = counted_respects n vs ws m
  object_unpacked_respects n _ _ (tuples vs ws m) = counted_respects n vs ws m
  object_unpacked_respects n _ _ (dicts vs ws m) = counted_respects n (keys_of vs) (keys_of ws) (keys_zip vs ws m)
  object_unpacked_respects n o u h = fail_respects c (AllZip (Values c)) _ _ (ap (λ k. not_unpacked k) (same_kind (Paired c) o u h))

  nothing_unpacked_respects : (v w : Value) → Values c v w → Unpacks (nothing_unpacked v) (nothing_unpacked w)
  unfolding nothing_unpacked
  nothing_unpacked_respects v w h = next c (kind_of_respects c v w h) λ i j e. fail_respects c (AllZip (Values c)) (not_unpacked i) (not_unpacked j) (ap (λ k. not_unpacked k) e)

  plain_unpacked : (n : ℕ) (v : Value) → value_refs v ≡ [] → Unpacks (unpacked n v) (unpacked n v)
  unfolding unpacked
  plain_unpacked n (value.Text text) none = counted_respects n (characters_of text) (characters_of text) (texts_zip (chars text))
  plain_unpacked n (value.Ref at) none = cc
  plain_unpacked n v none = nothing_unpacked_respects v v (equal v none)

  pub unpacked_respects : (n : ℕ) (v w : Value) → Values c v w → Unpacks (unpacked n v) (unpacked n w)
  unfolding unpacked
  unpacked_respects n _ _ (equal v none) = plain_unpacked n v none
  unpacked_respects n _ _ (refs a b p) = next c (object_at_respects c a b p) λ o u h. object_unpacked_respects n o u (kinds c o u h)
