-- Values, objects and names that can be written down can still be written down once they are numbered.
use Rattle.std.proofs.Common.{◌≡◌, ℕ, ◌+◌, ◌-◌, ◌<◌, ◌^◌, true, false, List, [], ◌∷◌, ◌++◌, map, length, Some, None, refl, ap, ◌∙◌, subst, inl, inr, arith, rules}
use Rattle.std.specs.Prelude.{Contains, slice_get}
use Rattle.std.specs.List.{flat_map, AllByRecursion, IsDistinct}
use Rattle.std.specs.Ordering.{is_lt}
use Rattle.std.specs.Cmp.{IsEquivalence}
use Rattle.std.specs.Cmp.Rules.{comparing}
use Rattle.std.proofs.lemmas.Bool.{cases_Bool}
use Rattle.std.proofs.lemmas.List.{length-append, length-map}
use Rattle.std.proofs.lemmas.List.Elements.{recursion_from_All, Contains-append_left, Contains-append_right}
use Rattle.std.proofs.lemmas.Option.{slice_get_within, slice_get-get_or}
use Rattle.std.proofs.Math.Seq.{get_or-append_seam}
use Rattle.py_names.specs.Names.{is_variable}
use Rattle.py_value.specs.declared.key.Key.{Key}
use Rattle.py_value.specs.declared.key.Key.TheVariants as key
use Rattle.py_value.specs.declared.value.Value.{Value}
use Rattle.py_value.specs.declared.value.Value.TheVariants as value
use Rattle.py_value.specs.Keys.{same_key, value_of}
use Rattle.py_heap.specs.declared.heap.Object.{Object}
use Rattle.py_heap.specs.declared.heap.Object.TheVariants as object
use Rattle.py_heap.specs.Dicts.{Pairs, HasNoKeyTwice, value_under}
use Rattle.py_heap.specs.References.{value_refs, pair_refs, object_refs}
use Rattle.py_machine.specs.Runs.{Name}
use Rattle.py_laws.proofs.Partners.{first_in}
use Rattle.graph_model.specs.Faults.{TextBelow, Ascends}
use Rattle.part_bytes.specs.Parts.{number_in, numbered, numbered_pair, numbered_object}
use Rattle.part_bytes.specs.Plain.{IsPlain, IsPlainPair, IsPlainObject}
use Rattle.checkpoint_reader.specs.PartReading.{stands_after, follows}
use Rattle.checkpoint_laws.specs.SpelledParts.{IsValue, ArePairs, IsObject, AreNames}
use Rattle.replay_laws.proofs.Renumbering.{number_at}
use Rattle.part_copies.specs.Written.{IsWritable}

-- ---- values

below_all : (a b c : ℕ) → a < b → b < c → a < c
below_all a b c l k = omega (arith, l, k)

-- a key is no reference
key_kept : (k : Key) → IsPlain (value_of k) → IsValue (value_of k)
key_kept key.Nothing p = tt
key_kept (key.Bool b) p = tt
key_kept (key.Number n) p = p
key_kept (key.Text t) p = p

module _ (order : List ℕ) (few : length order < 2 ^ 32) where
  abbrev Number : ℕ → ℕ
  Number = number_in order

  abbrev AreThere : List ℕ → Type 0
  AreThere ns = (a : ℕ) → Contains ns a → Contains order a

  pub value_kept : (v : Value) → IsPlain v → AreThere (value_refs v) → IsValue (numbered Number v)
  value_kept (value.Ref at) p k = below_all (number_in order at) (length order) (2 ^ 32) (slice_get_within order (number_in order at) at (number_at order at (k at (first_in at [])))) few
  value_kept value.Nothing p k = tt
  value_kept (value.Bool truth) p k = tt
  value_kept (value.Number n) p k = p
  value_kept (value.Text text) p k = p
  value_kept (value.Builtin builtin) p k = tt

  items_kept : (vs : List Value) → AllByRecursion IsPlain vs → AreThere (flat_map value_refs vs) → AllByRecursion IsValue (map (numbered Number) vs)
  items_kept [] p k = tt
  items_kept (v ∷ vs) p k = (
    value_kept v p.0 (λ a c. k a (Contains-append_left (value_refs v) (flat_map value_refs vs) a c)),
    items_kept vs p.1 (λ a c. k a (Contains-append_right (value_refs v) (flat_map value_refs vs) a c)),
  )

  -- ---- dicts

  under_moved : (before : Pairs) (key : Key) → value_under before key ≡ None → value_under (map (numbered_pair Number) before) key ≡ None
  under_moved [] key e = refl
  under_moved (p ∷ before) key e = elim (cases_Bool (same_key key p.0)) [
    | inl t ↦ absurd (let no : Some p.1 ≡ None = rw t at e in cc)
    | inr f ↦ rw f (under_moved before key (rw f at e))
  ]

  under_push : (before : Pairs) (p : Key × Value) (key : Key) → value_under before key ≡ None → same_key key p.0 ≡ false → value_under (before ++ p ∷ []) key ≡ None
  under_push [] p key e f = rw f refl
  under_push (q ∷ before) p key e f = elim (cases_Bool (same_key key q.0)) [
    | inl t ↦ absurd (let no : Some q.1 ≡ None = rw t at e in cc)
    | inr g ↦ rw g (under_push before p key (rw g at e) f)
  ]

  abbrev AreNew : Pairs → Pairs → Type 0
  AreNew before pairs = AllByRecursion (λ (q : Key × Value). value_under before q.0 ≡ None) pairs

  equal_keys : IsEquivalence same_key
  equal_keys = search (comparing, rules)

  still_new : (before : Pairs) (p : Key × Value) (pairs : Pairs) → AreNew before pairs → AllByRecursion (λ other. same_key p.0 other ≡ false) (map (λ (q : Key × Value). q.0) pairs) → AreNew (before ++ p ∷ []) pairs
  still_new before p [] n d = tt
  still_new before p (q ∷ pairs) n d = (under_push before p q.0 n.0 (equal_keys.symm q.0 p.0 ∙ d.0), still_new before p pairs n.1 d.1)

  moved_push : (before : Pairs) (p : Key × Value) → map (numbered_pair Number) (before ++ p ∷ []) ≡ map (numbered_pair Number) before ++ numbered_pair Number p ∷ []
  moved_push [] p = refl
  moved_push (q ∷ before) p = ap (λ (zs : Pairs). numbered_pair Number q ∷ zs) (moved_push before p)

  pairs_kept : (before pairs : Pairs) → AreNew before pairs → HasNoKeyTwice pairs → AllByRecursion IsPlainPair pairs → AreThere (flat_map pair_refs pairs)
      → ArePairs (map (numbered_pair Number) before) (map (numbered_pair Number) pairs)
  unfolding IsDistinct
  pairs_kept before [] n d p k = tt
  pairs_kept before (q ∷ pairs) n d p k = (
    key_kept q.0 p.0.0,
    under_moved before q.0 n.0,
    value_kept q.1 p.0.1 (λ a c. k a (Contains-append_left (pair_refs q) (flat_map pair_refs pairs) a c)),
    subst (λ (zs : Pairs). ArePairs zs (map (numbered_pair Number) pairs)) (moved_push before q)
        (pairs_kept (before ++ q ∷ []) pairs (still_new before q pairs n.1 d.0) d.1 p.1 (λ a c. k a (Contains-append_right (pair_refs q) (flat_map pair_refs pairs) a c))),
  )

  none_yet : (pairs : Pairs) → AreNew [] pairs
  none_yet [] = tt
  none_yet (q ∷ pairs) = (refl, none_yet pairs)

  -- ---- objects

  pub object_kept : (o : Object) → IsPlainObject o → IsWritable o → AreThere (object_refs o) → IsObject (numbered_object Number o)
  object_kept (object.List items) p w k = (
    let e : length (map (numbered Number) items) ≡ length items = length-map items (numbered Number) in omega (arith, e, p.0),
    items_kept items (recursion_from_All IsPlain items p.1) k,
  )
  object_kept (object.Tuple items) p w k = (
    let e : length (map (numbered Number) items) ≡ length items = length-map items (numbered Number) in omega (arith, e, p.0),
    items_kept items (recursion_from_All IsPlain items p.1) k,
  )
  object_kept (object.Dict pairs) p w k = (
    let e : length (map (numbered_pair Number) pairs) ≡ length pairs = length-map pairs (numbered_pair Number) in omega (arith, e, p.0),
    pairs_kept [] pairs (none_yet pairs) w (recursion_from_All IsPlainPair pairs p.1) k,
  )
  object_kept (object.Function def) p w k = (p, w)
  object_kept (object.Handle name uses) p w k = absurd w

-- ---- names

last_of : (before : List Name) (x : Name) → slice_get (before ++ x ∷ []) (length (before ++ x ∷ []) - 1) ≡ Some x
last_of before x =
    let size : length (before ++ x ∷ []) ≡ length before + 1 = length-append before (x ∷ []) in
    let at : length (before ++ x ∷ []) - 1 ≡ length before = omega (arith, size) in
    let there : slice_get (before ++ x ∷ []) (length before) ≡ Some x = slice_get-get_or (before ++ x ∷ []) (length before) x (omega (arith, size)) ∙ ap (λ (z : Name). Some z) (get_or-append_seam before x [] x) in
    ap (λ (k : ℕ). slice_get (before ++ x ∷ []) k) at ∙ there

follows_last : (before : List Name) (x name : Name) → TextBelow x name → follows (before ++ x ∷ []) name ≡ true
unfolding follows
follows_last before x name l = ap (λ o. stands_after o name) (last_of before x) ∙ ap is_lt l

names_after : (before : List Name) (x : Name) (names : List Name) → Ascends TextBelow (x ∷ names) → AllByRecursion (λ name. is_variable name ≡ true) names → AreNames (before ++ x ∷ []) names
names_after before x [] a v = tt
names_after before x (y ∷ names) a v = (v.0, follows_last before x y a.0, names_after (before ++ x ∷ []) y names a.1 v.1)

pub names_kept : (names : List Name) → Ascends TextBelow names → AllByRecursion (λ name. is_variable name ≡ true) names → AreNames [] names
unfolding follows
names_kept [] a v = tt
names_kept (x ∷ names) a v = (v.0, refl, names_after [] x names a v.1)
