-- A part that has a text is one by itself.
use Rattle.std.proofs.Common.{◌≡◌, ◌≢◌, ℕ, ◌+◌, ◌-◌, ◌<◌, ◌≤◌, ◌==◌, true, false, List, [], ◌∷◌, ◌++◌, length, map, Option, Some, None, Ok, refl, sym, ap, ◌∙◌, inl, inr, arith, rules, All}
use Rattle.std.specs.Prelude.{nat_lt, slice_get}
use Rattle.std.specs.List.{flat_map, AllByRecursion, AllPairs, IsDistinct}
use Rattle.std.specs.declared.cmp.Ordering.{Ordering}
use Rattle.std.specs.declared.cmp.Ordering.TheVariants.{Less, Equal, Greater}
use Rattle.std.specs.Ordering.{nat_cmp, is_lt}
use Rattle.std.specs.Cmp.{IsEquivalence}
use Rattle.std.specs.Cmp.Lexicographic.{slice_cmp}
use Rattle.std.specs.Cmp.Rules.{comparing}
use Rattle.std.proofs.lemmas.Bool.{cases_Bool, eqb-true, ltb-true}
use Rattle.std.proofs.lemmas.Cmp.{nat_list_cmp_total, tied_itself}
use Rattle.std.proofs.lemmas.List.{length-append}
use Rattle.std.proofs.lemmas.List.Elements.{All-nil, All-cons, All-weaker, All-from_recursion}
use Rattle.std.proofs.lemmas.List.Kept.{AllPairs-cons}
use Rattle.std.proofs.lemmas.Option.{slice_get-get_or}
use Rattle.std.proofs.Math.Seq.{get_or-append_seam}
use Rattle.py_names.specs.Names.{is_variable}
use Rattle.py_tree.specs.declared.statements.Def.{Def}
use Rattle.py_reader.specs.DefinitionVerdict.{verdict_alone}
use Rattle.py_value.specs.declared.key.Key.{Key}
use Rattle.py_value.specs.declared.value.Value.{Value}
use Rattle.py_value.specs.Keys.{same_key}
use Rattle.py_heap.specs.declared.heap.Object.{Object}
use Rattle.py_heap.specs.declared.heap.Object.TheVariants as the_object
use Rattle.py_heap.specs.Dicts.{Pairs, HasNoKeyTwice, value_under}
use Rattle.py_heap.specs.Objects.{is_handle}
use Rattle.py_heap.specs.Valid.{IsValidObject}
use Rattle.py_heap.specs.References.{AreLive, value_refs, object_refs}
use Rattle.py_heap.specs.Reaching.{held_refs}
use Rattle.part_bytes.specs.declared.part.PartValue.{PartValue}
use Rattle.checkpoint_reader.specs.PartReading.{stands_after, follows}
use Rattle.checkpoint_laws.specs.SpelledParts.{counted, IsHeld, ArePairs, IsObject, AreObjects, AreNames, HasPartText}
use Rattle.checkpoint_laws.specs.Closed.{TextBelow, IsClosedPart}
use Rattle.checkpoint_laws.proofs.Counts.{counted_grows, counted_parts}
use Rattle.checkpoint_laws.proofs.InOrder.{in_order}

-- ---- references

abbrev AllBelow : ℕ → List ℕ → Type 0
AllBelow most ns = All (λ at. at < most) ns

-- each object that is referred to is one of those that were referred to in the end
below_most : (ns : List ℕ) (met next most : ℕ) → counted met ns ≡ Some next → next ≤ most → AllBelow most ns
below_most [] met next most e l = All-nil (λ at. at < most)
below_most (n ∷ ns) met next most e l = elim (cases_Bool (nat_lt n met)) [
  | inl t ↦
      let rest : counted met ns ≡ Some next = rw t at e in
      let old = ltb-true n met t in
      let grows = counted_grows ns met next rest in
      All-cons (λ at. at < most) n ns (omega (arith, old, grows, l)) (below_most ns met next most rest l)
  | inr f ↦ elim (cases_Bool (n == met)) [
    | inl t ↦
        let rest : counted (met + 1) ns ≡ Some next = rw (f, t) at e in
        let new = eqb-true n met t in
        let grows = counted_grows ns (met + 1) next rest in
        All-cons (λ at. at < most) n ns (omega (arith, new, grows, l)) (below_most ns (met + 1) next most rest l)
    | inr g ↦ absurd (let none : None ≡ Some next = rw (f, g) at e in cc)
  ]
]

each_below : {A : Type 0} (refs : A → List ℕ) (xs : List A) (met next most : ℕ) → counted met (flat_map refs xs) ≡ Some next → next ≤ most → AllByRecursion (λ x. AllBelow most (refs x)) xs
each_below refs [] met next most e l = tt
each_below refs (x ∷ xs) met next most e l =
    let p = counted_parts (refs x) (flat_map refs xs) met next e in
    let grows = counted_grows (flat_map refs xs) p.mid next p.rest in
    (below_most (refs x) met p.mid most p.first (omega (arith, grows, l)), each_below refs xs p.mid next most p.rest l)

objects_below : (n met most : ℕ) (os : List Object) → AreObjects n met most os → AllByRecursion (λ o. AllBelow most (object_refs o)) os
objects_below n met most [] h = tt
objects_below n met most (o ∷ os) h = (below_most (object_refs o) met h.2.0 most h.2.1 h.2.2, objects_below (n + 1) h.2.0 most os h.2.3)

-- ---- keys

equal_keys : IsEquivalence same_key
equal_keys = search (comparing, rules)

none_before : (before more : Pairs) (key : Key) → value_under (before ++ more) key ≡ None → value_under before key ≡ None
none_before [] more key e = refl
none_before (p ∷ before) more key e = elim (cases_Bool (same_key key p.0)) [
  | inl t ↦ absurd (let no : Some p.1 ≡ None = rw t at e in cc)
  | inr f ↦ rw f (none_before before more key (rw f at e))
]

not_last : (before : Pairs) (p : Key × Value) (key : Key) → value_under (before ++ p ∷ []) key ≡ None → same_key key p.0 ≡ false
not_last [] p key e = elim (cases_Bool (same_key key p.0)) [
  | inl t ↦ absurd (let no : Some p.1 ≡ None = rw t at e in cc)
  | inr f ↦ f
]
not_last (q ∷ before) p key e = elim (cases_Bool (same_key key q.0)) [
  | inl t ↦ absurd (let no : Some q.1 ≡ None = rw t at e in cc)
  | inr f ↦ not_last before p key (rw f at e)
]

-- a key that no key after these is the same as
apart : (key : Key) (before pairs : Pairs) → ((other : Key) → value_under before other ≡ None → same_key other key ≡ false) → ArePairs before pairs
    → AllByRecursion (λ other. same_key key other ≡ false) (map (λ pair. pair.0) pairs)
apart key before [] h g = tt
apart key before (p ∷ pairs) h g = (equal_keys.symm key p.0 ∙ h p.0 g.1, apart key (before ++ p ∷ []) pairs (λ other e. h other (none_before before (p ∷ []) other e)) g.3)

no_key_twice : (before pairs : Pairs) → ArePairs before pairs → HasNoKeyTwice pairs
unfolding IsDistinct
no_key_twice before [] g = tt
no_key_twice before (p ∷ pairs) g = (apart p.0 (before ++ p ∷ []) pairs (λ other e. not_last before p other e) g.3, no_key_twice (before ++ p ∷ []) pairs g.3)

abbrev IsSource : Def → Type 0
IsSource def = verdict_alone def.source ≡ Ok def

valid : (o : Object) → IsObject o → IsValidObject IsSource o
valid (the_object.List items) h = tt
valid (the_object.Tuple items) h = tt
valid (the_object.Dict pairs) h = no_key_twice [] pairs h.1
valid (the_object.Function def) h = h.1
valid (the_object.Handle name uses) h = absurd h

movable : (o : Object) → IsObject o → is_handle (Some o) ≡ false
movable (the_object.List items) h = refl
movable (the_object.Tuple items) h = refl
movable (the_object.Dict pairs) h = refl
movable (the_object.Function def) h = refl
movable (the_object.Handle name uses) h = absurd h

are_objects : (n met most : ℕ) (os : List Object) → AreObjects n met most os → AllByRecursion IsObject os
are_objects n met most [] h = tt
are_objects n met most (o ∷ os) h = (h.1, are_objects (n + 1) h.2.0 most os h.2.3)

-- ---- names

variables : (before names : List (List ℕ)) → AreNames before names → AllByRecursion (λ name. is_variable name ≡ true) names
variables before [] h = tt
variables before (name ∷ names) h = (h.0, variables (before ++ name ∷ []) names h.2)

is_less : (o : Ordering) → is_lt o ≡ true → o ≡ Less
is_less Less e = refl
is_less Equal e = absurd (let no : false ≡ true = e in cc)
is_less Greater e = absurd (let no : false ≡ true = e in cc)

last_of : (before : List (List ℕ)) (last : List ℕ) → slice_get (before ++ last ∷ []) (length (before ++ last ∷ []) - 1) ≡ Some last
last_of before last =
    let size = length-append before (last ∷ []) in
    let place : length (before ++ last ∷ []) - 1 ≡ length before = omega (arith, size) in
    let within : length before < length (before ++ last ∷ []) = omega (arith, size) in
    ap (λ (n : ℕ). slice_get (before ++ last ∷ []) n) place
    ∙ (slice_get-get_or (before ++ last ∷ []) (length before) last within ∙ ap (λ (x : List ℕ). Some x) (get_or-append_seam before last [] last))

follows_last : (before : List (List ℕ)) (last name : List ℕ) → follows (before ++ last ∷ []) name ≡ true → TextBelow last name
unfolding follows
follows_last before last name e = is_less (slice_cmp nat_cmp last name) (sym (ap (λ (o : Option (List ℕ)). stands_after o name) (last_of before last)) ∙ e)

after_last : (before : List (List ℕ)) (last : List ℕ) (names : List (List ℕ)) → AreNames (before ++ last ∷ []) names → All (TextBelow last) names
after_last before last [] h = All-nil (TextBelow last)
after_last before last (name ∷ names) h =
    let first = follows_last before last name h.1 in
    let rest = after_last (before ++ last ∷ []) name names h.2 in
    All-cons (TextBelow last) name names first (All-weaker (TextBelow name) (TextBelow last) (λ other e. nat_list_cmp_total.trans last name other first e) names rest)

ascending : (before names : List (List ℕ)) → AreNames before names → AllPairs TextBelow names
ascending before [] h = λ i j d l k. absurd (let none : j < 0 = k in omega arith)
ascending before (name ∷ names) h = AllPairs-cons TextBelow name names (after_last before name names h.2) (ascending (before ++ name ∷ []) names h.2)

other_name : (x y : List ℕ) → TextBelow x y → x ≢ y
other_name x y l e =
    let same : slice_cmp nat_cmp x y ≡ Equal = ap (λ (z : List ℕ). slice_cmp nat_cmp x z) (sym e) ∙ tied_itself nat_list_cmp_total x in
    let no : Less ≡ Equal = sym l ∙ same in
    cc

-- ---- what names have

alone : (names : List (List ℕ)) (o : Option Value) → IsHeld (length names == 1) o → o ≡ None → length names ≡ 1
alone names None h e = eqb-true (length names) 1 h
alone names (Some v) h e = absurd (let no : Some v ≡ None = e in cc)

pub closed_part : (part : PartValue) → HasPartText part → IsClosedPart part
closed_part part h =
    let ordered = ascending [] part.names h.names in
    let each : All IsObject part.objects = All-from_recursion IsObject part.objects (are_objects 0 h.met (length part.objects) part.objects h.objects) in
    record {
      some = h.some;
      variables = All-from_recursion (λ name. is_variable name ≡ true) part.names (variables [] part.names h.names);
      ascend = ordered;
      distinct = λ i j d l k. other_name _ _ (ordered i j d l k);
      as_many = h.as_many;
      absent = All-weaker (IsHeld (length part.names == 1)) (λ (held : Option Value). held ≡ None → length part.names ≡ 1) (alone part.names) part.values
          (All-from_recursion (IsHeld (length part.names == 1)) part.values h.values);
      values = All-from_recursion (λ held. AreLive part.objects (held_refs value_refs held)) part.values (each_below (held_refs value_refs) part.values 0 h.met (length part.objects) h.refs h.within);
      objects = All-from_recursion (λ object. AreLive part.objects (object_refs object)) part.objects (objects_below 0 h.met (length part.objects) part.objects h.objects);
      valid = All-weaker IsObject (IsValidObject IsSource) valid part.objects each;
      movable = All-weaker IsObject (λ object. is_handle (Some object) ≡ false) movable part.objects each;
      in_order = in_order part h;
    }
