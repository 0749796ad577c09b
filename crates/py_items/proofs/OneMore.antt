-- What a dict and a text are unpacked into, one after the other.
use Rattle.std.proofs.Common.{◌≡◌, ℕ, ◌+◌, ◌<◌, List, [], ◌∷◌, ◌++◌, length, take, map, get_or, Option, Some, refl, sym, ap, ◌∙◌, zero, suc, add-one, append-nil}
use Rattle.std.specs.Prelude.{encode_utf8, slice_get}
use Rattle.std.specs.Str.{IsUtf8, chars}
use Rattle.std.proofs.lemmas.List.{append_assoc, map_push}
use Rattle.std.proofs.lemmas.Str.{IsUtf8-past_char, chars_past_char, chars-nil}
use Rattle.py_value.specs.declared.value.Value.{Value}
use Rattle.py_value.specs.declared.value.Value.TheVariants as value
use Rattle.py_value.specs.Keys.{value_of}
use Rattle.py_heap.specs.Dicts.{Pairs}
use Rattle.py_meaning.specs.Unpacking.{keys_of, characters_of}

abbrev pub letter : ℕ → Value
letter c = value.Text (encode_utf8 c)

pub no_more : (made : List Value) (text rest : List ℕ) → length rest ≡ 0 → made ++ map letter (chars rest) ≡ characters_of text → made ≡ characters_of text
no_more made text [] e h = sym (append-nil made) ∙ (ap (λ (t : List ℕ). made ++ map letter t) (sym chars-nil) ∙ h)
no_more made text (x ∷ rest) e h = absurd (cc)

pub one_character : (made more : List Value) (text rest after : List ℕ) (c : ℕ) → IsUtf8 rest → rest ≡ encode_utf8 c ++ after → more ≡ made ++ letter c ∷ [] → made ++ map letter (chars rest) ≡ characters_of text
    → (more ++ map letter (chars after) ≡ characters_of text) × IsUtf8 after
one_character made more text rest after c u split m h = (
  ap (λ (t : List Value). t ++ map letter (chars after)) m ∙ append_assoc made (letter c ∷ []) (map letter (chars after)) ∙ (ap (λ (t : List ℕ). made ++ map letter t) (sym (chars_past_char rest after c u split)) ∙ h),
  IsUtf8-past_char rest after c u split,
)

next : {A : Type 0} (xs : List A) (i : ℕ) (x : A) → slice_get xs i ≡ Some x → take i xs ++ x ∷ [] ≡ take (suc i) xs
next [] i x h = cc
next (y ∷ ys) zero x h = let e : y ≡ x = cc in ap (λ z. z ∷ []) (sym e)
next (y ∷ ys) (suc i) x h = ap (◌∷◌ y) (next ys i x h)

pub one_key : (made more : List Value) (pairs : Pairs) (i : ℕ) (pair : _) → slice_get pairs i ≡ Some pair → made ≡ keys_of (take i pairs) → more ≡ made ++ value_of pair.0 ∷ [] → more ≡ keys_of (take (i + 1) pairs)
one_key made more pairs i pair g h m =
    m ∙ ap (λ (t : List Value). t ++ value_of pair.0 ∷ []) h ∙ sym (map_push (λ p. value_of p.0) (take i pairs) pair) ∙ ap keys_of (next pairs i pair g ∙ ap (λ n. take n pairs) (sym (add-one i)))
