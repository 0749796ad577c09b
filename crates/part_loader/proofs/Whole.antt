-- Objects without references are as they were at new addresses.
use Rattle.std.proofs.Common.{◌≡◌, ℕ, ◌+◌, ◌≤◌, Bool, true, false, List, [], ◌∷◌, length, take, get_or, map, Some, refl, sym, ap, ◌∙◌}
use Rattle.std.specs.Prelude.{◌||◌, slice_get}
use Rattle.std.proofs.lemmas.List.{take_more, take_all}
use Rattle.std.proofs.lemmas.List.Folds.{list_any-append, list_any_at}
use Rattle.std.proofs.lemmas.Option.{slice_get_within, get_or_from_slice_get}
use Rattle.std.proofs.lemmas.Bool.{or_parts}
use Rattle.std.specs.List.{list_any}
use Rattle.py_value.specs.declared.key.Key.{Key}
use Rattle.py_value.specs.declared.value.Value.{Value}
use Rattle.py_value.specs.declared.value.Value.TheVariants as value
use Rattle.py_heap.specs.declared.heap.Object.{Object}
use Rattle.py_heap.specs.declared.heap.Object.TheVariants as object
use Rattle.part_bytes.specs.Parts.{numbered, numbered_pair, numbered_object}
use Rattle.part_loader.specs.References.{is_reference, refers}

-- ---- what is found among the first

pub found : {A : Type 0} (q : A → Bool) (xs : List A) (i : ℕ) (x : A) → slice_get xs i ≡ Some x → q x ≡ true → list_any q xs ≡ true
found q xs i x at is = list_any_at q xs i x (slice_get_within xs i x at) (ap q (get_or_from_slice_get xs i x x at) ∙ is)

pub none_more : {A : Type 0} (q : A → Bool) (xs : List A) (i : ℕ) (x : A) → slice_get xs i ≡ Some x → list_any q (take i xs) ≡ false → q x ≡ false → list_any q (take (i + 1) xs) ≡ false
none_more q xs i x at none is =
    ap (list_any q) (take_more xs i x (slice_get_within xs i x at)) ∙ list_any-append q (take i xs) (get_or xs i x ∷ [])
    ∙ both (list_any q (take i xs)) (q (get_or xs i x)) none (ap q (get_or_from_slice_get xs i x x at) ∙ is)
  where
    both : (a b : Bool) → a ≡ false → b ≡ false → (a || (b || false)) ≡ false
    both a b p r = rw (p, r) refl

pub none_at_all : {A : Type 0} (q : A → Bool) (xs : List A) (i : ℕ) → length xs ≤ i → list_any q (take i xs) ≡ false → list_any q xs ≡ false
none_at_all q xs i all none = sym (ap (list_any q) (take_all i xs all)) ∙ none

-- ---- what has no references

same_value : (f : ℕ → ℕ) (v : Value) → is_reference v ≡ false → numbered f v ≡ v
same_value f (value.Ref at) e = absurd (let no : ⊥ = cc in no)
same_value f value.Nothing e = refl
same_value f (value.Bool truth) e = refl
same_value f (value.Number n) e = refl
same_value f (value.Text text) e = refl
same_value f (value.Builtin builtin) e = refl

same_items : (f : ℕ → ℕ) (items : List Value) → list_any is_reference items ≡ false → map (numbered f) items ≡ items
same_items f [] e = refl
same_items f (v ∷ items) e =
    let both = or_parts _ _ e in
    ap (λ first. first ∷ map (numbered f) items) (same_value f v both.0) ∙ ap (λ rest. v ∷ rest) (same_items f items both.1)

same_pairs : (f : ℕ → ℕ) (pairs : List (Key × Value)) → list_any (λ pair. is_reference pair.1) pairs ≡ false → map (numbered_pair f) pairs ≡ pairs
same_pairs f [] e = refl
same_pairs f (p ∷ pairs) e =
    let both = or_parts _ _ e in
    ap (λ (v : Value). (p.0, v) ∷ map (numbered_pair f) pairs) (same_value f p.1 both.0) ∙ ap (λ rest. p ∷ rest) (same_pairs f pairs both.1)

pub without_references : (f : ℕ → ℕ) (o : Object) → refers o ≡ false → o ≡ numbered_object f o
without_references f (object.List items) e = sym (ap (λ is. object.List is) (same_items f items e))
without_references f (object.Tuple items) e = sym (ap (λ is. object.Tuple is) (same_items f items e))
without_references f (object.Dict pairs) e = sym (ap (λ ps. object.Dict ps) (same_pairs f pairs e))
without_references f (object.Function def) e = refl
without_references f (object.Handle name uses) e = refl
