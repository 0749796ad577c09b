-- Objects are numbered as they are met.
use Rattle.std.proofs.Common.{◌≡◌, ℕ, ◌+◌, ◌<◌, ◌≤◌, ◌==◌, not, true, false, List, [], ◌∷◌, ◌++◌, map, length, get_or, Option, Some, None, option_map, refl, sym, ap, ◌∙◌, subst, inl, inr, arith}
use Rattle.std.specs.Prelude.{filter}
use Rattle.std.specs.List.{flat_map}
use Rattle.std.specs.FinMap as finite
use Rattle.std.proofs.lemmas.Bool.{false≢true, cases_Bool, eq-eqb}
use Rattle.std.proofs.lemmas.List.{append_assoc, length-append, map-append, get_or_append_left}
use Rattle.py_value.specs.declared.key.Key.{Key}
use Rattle.py_value.specs.declared.value.Value.{Value}
use Rattle.py_value.specs.declared.value.Value.TheVariants as value
use Rattle.py_heap.specs.declared.heap.Object.{Object}
use Rattle.py_heap.specs.declared.heap.Object.TheVariants as object
use Rattle.py_heap.specs.declared.state.State.{State}
use Rattle.py_heap.specs.References.{value_refs, pair_refs, object_refs}
use Rattle.py_heap.specs.Reaching.{held_refs, name_refs, firsts}
use Rattle.py_heap.specs.Searches.{has, all_noted}
use Rattle.py_heap.proofs.Numbers.{all_noted_is, has_of_contains, contains_of_has}
use Rattle.py_machine.specs.Runs.{Name}
use Rattle.part_bytes.specs.Parts.{number_in, numbered, numbered_pair, numbered_object, held_of}
use Rattle.checkpoint_laws.specs.SpelledParts.{counted}
use Rattle.checkpoint_laws.proofs.Offs.{below, not_below}

-- ---- the number of what is met

number_front : (front more : List ℕ) (at : ℕ) → has front at ≡ true → number_in (front ++ more) at < length front
number_front [] more at h = absurd (false≢true h)
number_front (n ∷ ns) more at h = elim (cases_Bool (n == at)) [
  | inl e ↦ rw e (omega arith)
  | inr f ↦ let k = number_front ns more at (rw f at h) in rw f (omega (arith, k))
]

number_next : (front : List ℕ) (at : ℕ) (more : List ℕ) → has front at ≡ false → number_in (front ++ at ∷ more) at ≡ length front
number_next [] at more h = rw (eq-eqb at at refl) refl
number_next (n ∷ ns) at more h = elim (cases_Bool (n == at)) [
  | inl e ↦ absurd (let no : true ≡ false = rw e at h in false≢true (sym no))
  | inr f ↦ let k = number_next ns at more (rw f at h) in rw f (omega (arith, k))
]

counted_old : (met n : ℕ) (ns : List ℕ) → n < met → counted met (n ∷ ns) ≡ counted met ns
counted_old met n ns l = rw (below n met l) refl

counted_new : (met n : ℕ) (ns : List ℕ) → n ≡ met → counted met (n ∷ ns) ≡ counted (met + 1) ns
counted_new met n ns e = rw (not_below n met (omega (arith, e)), eq-eqb n met e) refl

module _ (order : List ℕ) where
  abbrev Number : ℕ → ℕ
  Number = number_in order

  -- what is met after these is counted on
  pub counts : (xs seen more : List ℕ) → order ≡ all_noted seen xs ++ more → counted (length seen) (map Number xs) ≡ Some (length (all_noted seen xs))
  counts [] seen more e = refl
  counts (x ∷ xs) seen more e = elim (cases_Bool (has seen x)) [
    | inl t ↦
        let f : order ≡ all_noted seen xs ++ more = rw t at e in
        let new : List ℕ = filter (λ m. not (has seen m)) (firsts xs) in
        let g : order ≡ seen ++ (new ++ more) = f ∙ (ap (λ (zs : List ℕ). zs ++ more) (all_noted_is seen xs) ∙ append_assoc seen new more) in
        let l : Number x < length seen = subst (λ (zs : List ℕ). number_in zs x < length seen) (sym g) (number_front seen (new ++ more) x t) in
        rw t (counted_old (length seen) (Number x) (map Number xs) l ∙ counts xs seen more f)
    | inr n ↦
        let f : order ≡ all_noted (seen ++ x ∷ []) xs ++ more = rw n at e in
        let new : List ℕ = filter (λ m. not (has (seen ++ x ∷ []) m)) (firsts xs) in
        let g : order ≡ seen ++ x ∷ (new ++ more) = f ∙ (ap (λ (zs : List ℕ). zs ++ more) (all_noted_is (seen ++ x ∷ []) xs)
        ∙ (append_assoc (seen ++ x ∷ []) new more ∙ append_assoc seen (x ∷ []) (new ++ more))) in
        let l : Number x ≡ length seen = ap (λ (zs : List ℕ). number_in zs x) g ∙ number_next seen x (new ++ more) n in
        let size : length (seen ++ x ∷ []) ≡ length seen + 1 = length-append seen (x ∷ []) in
        rw n (counted_new (length seen) (Number x) (map Number xs) l ∙ (ap (λ (k : ℕ). counted k (map Number xs)) (sym size) ∙ counts xs (seen ++ x ∷ []) more f))
  ]

  -- ---- the references of what is numbered

  pub refs_value : (v : Value) → value_refs (numbered Number v) ≡ map Number (value_refs v)
  refs_value (value.Ref at) = refl
  refs_value value.Nothing = refl
  refs_value (value.Bool truth) = refl
  refs_value (value.Number n) = refl
  refs_value (value.Text text) = refl
  refs_value (value.Builtin builtin) = refl

  refs_values : (vs : List Value) → flat_map value_refs (map (numbered Number) vs) ≡ map Number (flat_map value_refs vs)
  refs_values [] = refl
  refs_values (v ∷ vs) =
      ap (λ (zs : List ℕ). zs ++ flat_map value_refs (map (numbered Number) vs)) (refs_value v)
      ∙ (ap (λ (zs : List ℕ). map Number (value_refs v) ++ zs) (refs_values vs) ∙ sym (map-append Number (value_refs v) (flat_map value_refs vs)))

  refs_pairs : (ps : List (Key × Value)) → flat_map pair_refs (map (numbered_pair Number) ps) ≡ map Number (flat_map pair_refs ps)
  refs_pairs [] = refl
  refs_pairs (p ∷ ps) =
      ap (λ (zs : List ℕ). zs ++ flat_map pair_refs (map (numbered_pair Number) ps)) (refs_value p.1)
      ∙ (ap (λ (zs : List ℕ). map Number (pair_refs p) ++ zs) (refs_pairs ps) ∙ sym (map-append Number (pair_refs p) (flat_map pair_refs ps)))

  pub refs_object : (o : Object) → object_refs (numbered_object Number o) ≡ map Number (object_refs o)
  refs_object (object.List items) = refs_values items
  refs_object (object.Tuple items) = refs_values items
  refs_object (object.Dict pairs) = refs_pairs pairs
  refs_object (object.Function def) = refl
  refs_object (object.Handle name uses) = refl

  refs_held : (o : Option Value) → held_refs value_refs (option_map (numbered Number) o) ≡ map Number (held_refs value_refs o)
  refs_held (Some v) = refs_value v
  refs_held None = refl

  pub refs_names : (s : State) (names : List Name) → flat_map (held_refs value_refs) (map (held_of s Number) names) ≡ map Number (flat_map (name_refs s) names)
  refs_names s [] = refl
  refs_names s (x ∷ xs) =
      ap (λ (zs : List ℕ). zs ++ flat_map (held_refs value_refs) (map (held_of s Number) xs)) (refs_held (finite.get s.globals x))
      ∙ (ap (λ (zs : List ℕ). map Number (name_refs s x) ++ zs) (refs_names s xs) ∙ sym (map-append Number (name_refs s x) (flat_map (name_refs s) xs)))

-- ---- what is in a beginning is in a longer one

pub in_longer : (xs a ys b : List ℕ) → xs ++ a ≡ ys ++ b → length xs ≤ length ys → (n : ℕ) → has xs n ≡ true → has ys n ≡ true
in_longer xs a ys b e l n h =
    let c = contains_of_has xs n h in
    let k : c.0 < length ys = let m : c.0 < length xs = c.1 in omega (arith, l, m) in
    let same : get_or ys c.0 n ≡ n = sym (get_or_append_left ys b n c.0 k) ∙ (ap (λ (zs : List ℕ). get_or zs c.0 n) (sym e) ∙ (get_or_append_left xs a n c.0 c.1 ∙ c.2)) in
    has_of_contains ys n (c.0, k, same)
