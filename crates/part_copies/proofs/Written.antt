-- What is written of a state has a text.
use Rattle.std.proofs.Common.{◌≡◌, ◌≢◌, ℕ, ◌+◌, ◌<◌, ◌^◌, ◌==◌, not, true, List, [], ◌∷◌, ◌++◌, map, length, get_or, Some, option_map, refl, sym, ap, ◌∙◌, subst, inl, inr, arith}
use Rattle.std.specs.Prelude.{Contains, AllPairs, slice_get, option_to_list, filter}
use Rattle.std.specs.List.{flat_map, AllByRecursion}
use Rattle.std.specs.FinMap as finite
use Rattle.std.proofs.lemmas.Bool.{cases_lt, eq-eqb}
use Rattle.std.proofs.lemmas.List.{append-nil, append_assoc, length-append, length-map, get_or_append_left}
use Rattle.std.proofs.lemmas.List.Elements.{All-contains, Contains-get_or, Contains-append_right}
use Rattle.std.proofs.lemmas.Option.{slice_get-get_or}
use Rattle.std.proofs.lemmas.Grind.{flat_map-append, fold-append}
use Rattle.std.proofs.Math.Seq.{get_or-append_seam}
use Rattle.py_value.specs.declared.value.Value.{Value}
use Rattle.py_heap.specs.declared.heap.Object.{Object}
use Rattle.py_heap.specs.declared.heap.Object.TheVariants as object
use Rattle.py_heap.specs.declared.state.State.{State}
use Rattle.py_heap.specs.References.{value_refs, object_refs, IsClosed}
use Rattle.py_heap.specs.Reaching.{held_refs, name_refs, refs_at, Reach, IsListOf, firsts, met}
use Rattle.py_heap.specs.Reaching as reaching
use Rattle.py_heap.specs.Searches.{has, noted, all_noted}
use Rattle.py_heap.proofs.Numbers.{has-firsts, contains_of_has, firsts_are, firsts_apart, all_noted_is}
use Rattle.py_heap.proofs.Searching.{whole}
use Rattle.py_machine.specs.Runs.{Name}
use Rattle.py_laws.proofs.Partners.{first_in, later_in}
use Rattle.py_laws.proofs.Reached.{reached_live}
use Rattle.run_graph.proofs.Reached.{has_value}
use Rattle.part_bytes.specs.Parts.{order, number_in, numbered, numbered_object, objects_of, held_of, part_of}
use Rattle.part_bytes.specs.Plain.{IsPlainIn, IsPlainAt}
use Rattle.part_bytes.proofs.Orders.{order_lists, order_first}
use Rattle.part_bytes.proofs.Pieces.{as_many}
use Rattle.checkpoint_laws.specs.SpelledParts.{counted, IsHeld, AreObjects, HasPartText}
use Rattle.part_copies.specs.Written.{CanBeWritten}
use Rattle.part_copies.proofs.Counting.{counts, refs_object, refs_names, in_longer}
use Rattle.part_copies.proofs.Keeping.{value_kept, object_kept, names_kept}

module _ (s : State) (names : List Name) (closed : IsClosed s) where
  abbrev Found : List ℕ
  Found = order s names

  abbrev Number : ℕ → ℕ
  Number = number_in Found

  abbrev Roots : List ℕ
  Roots = flat_map (name_refs s) names

  reached : IsListOf s names Found
  reached = order_lists s names closed

  apart : AllPairs (λ a b. a ≢ b) Found
  apart = subst (AllPairs (λ a b. a ≢ b)) (sym (order_first s names closed)) (firsts_apart (met s names Found))

  live : (a : ℕ) → Contains Found a → a < length s.heap
  live a c = reached_live s closed names a ((reached a).0 c)

  -- ---- what was met after these objects

  abbrev seen_by : List ℕ → List ℕ
  seen_by front = all_noted [] (met s names front)

  met_more : (front more : List ℕ) → met s names (front ++ more) ≡ met s names front ++ flat_map (refs_at s) more
  met_more front more =
      ap (λ (ns : List ℕ). Roots ++ ns) (flat_map-append (refs_at s) front more)
      ∙ sym (append_assoc Roots (flat_map (refs_at s) front) (flat_map (refs_at s) more))

  seen_more : (front more : List ℕ) → seen_by (front ++ more) ≡ all_noted (seen_by front) (flat_map (refs_at s) more)
  seen_more front more = ap (λ (ns : List ℕ). all_noted [] ns) (met_more front more) ∙ fold-append noted [] (met s names front) (flat_map (refs_at s) more)

  seen_next : (front : List ℕ) (at : ℕ) → seen_by (front ++ at ∷ []) ≡ all_noted (seen_by front) (refs_at s at)
  seen_next front at = seen_more front (at ∷ []) ∙ ap (λ (ns : List ℕ). all_noted (seen_by front) ns) (append-nil (refs_at s at))

  seen_all : Found ≡ seen_by Found
  seen_all = order_first s names closed ∙ sym (firsts_are (met s names Found))

  -- what was met by then is a beginning of all that is found
  begins : (front rest : List ℕ) → Found ≡ front ++ rest → (more : List ℕ) × (Found ≡ seen_by front ++ more)
  begins front rest e =
      let refs : List ℕ = flat_map (refs_at s) rest in (
        filter (λ m. not (has (seen_by front) m)) (firsts refs),
        seen_all ∙ (ap (λ (zs : List ℕ). seen_by zs) e ∙ (seen_more front rest ∙ all_noted_is (seen_by front) refs)),
      )

  here : (front rest : List ℕ) (at : ℕ) → Found ≡ front ++ at ∷ rest → Contains Found at
  here front rest at e = subst (λ (zs : List ℕ). Contains zs at) (sym e) (Contains-append_right front (at ∷ rest) at (first_in at rest))

  not_again : (front rest : List ℕ) (at : ℕ) → Found ≡ front ++ at ∷ rest → has front at ≡ true → ⊥
  not_again front rest at e h =
      let c = contains_of_has front at h in
      let size : length Found ≡ length front + length (at ∷ rest) = ap (λ (zs : List ℕ). length zs) e ∙ length-append front (at ∷ rest) in
      let first : get_or Found c.0 at ≡ at = ap (λ (zs : List ℕ). get_or zs c.0 at) e ∙ (get_or_append_left front (at ∷ rest) at c.0 c.1 ∙ c.2) in
      let second : get_or Found (length front) at ≡ at = ap (λ (zs : List ℕ). get_or zs (length front) at) e ∙ get_or-append_seam front at rest at in
      apart c.0 (length front) at c.1 (omega (arith, size)) (first ∙ sym second)

  -- each object was referred to before
  before : (front rest : List ℕ) (at : ℕ) → Found ≡ front ++ at ∷ rest → length front < length (seen_by front)
  before front rest at e = elim (cases_lt (length front) (length (seen_by front))) [
    | inl l ↦ l
    | inr l ↦
        let m = begins front (at ∷ rest) e in
        let sub : (n : ℕ) → has (met s names front) n ≡ true → has front n ≡ true = λ n h.
        in_longer (seen_by front) m.0 front (at ∷ rest) (sym m.1 ∙ e) l n
        (ap (λ (zs : List ℕ). has zs n) (firsts_are (met s names front)) ∙ (has-firsts (met s names front) n ∙ h)) in
        absurd (not_again front rest at e (whole s names front sub at ((reached at).0 (here front rest at e))))
  ]

  -- ---- the objects

  module _ (w : CanBeWritten s names) where
    few : length Found < 2 ^ 32
    few = w.plain.few_objects

    object_plain : (at : ℕ) → Contains Found at → IsPlainAt s at
    object_plain at c = All-contains (IsPlainAt s) Found at w.plain.objects c

    objects_from : (front rest : List ℕ) → Found ≡ front ++ rest → AreObjects (length front) (length (seen_by front)) (length Found) (flat_map (objects_of s Number) rest)
    objects_from front [] e = tt
    objects_from front (at ∷ rest) e =
        let d : Object = object.List [] in
        let o : Object = get_or s.heap at d in
        let c : Contains Found at = here front rest at e in
        let near : Reach s names at = (reached at).0 c in
        let there : slice_get s.heap at ≡ Some o = slice_get-get_or s.heap at d (live at c) in
        let one : objects_of s Number at ≡ numbered_object Number o ∷ [] = ap (λ z. map (numbered_object Number) (option_to_list z)) there in
        let refs : refs_at s at ≡ object_refs o = ap (λ z. held_refs object_refs z) there in
        let f : Found ≡ (front ++ at ∷ []) ++ rest = e ∙ sym (append_assoc front (at ∷ []) rest) in
        let m = begins (front ++ at ∷ []) rest f in
        let seen : seen_by (front ++ at ∷ []) ≡ all_noted (seen_by front) (object_refs o) = seen_next front at ∙ ap (λ (ns : List ℕ). all_noted (seen_by front) ns) refs in
        let g : Found ≡ all_noted (seen_by front) (object_refs o) ++ m.0 = m.1 ∙ ap (λ (zs : List ℕ). zs ++ m.0) seen in
        let next : ℕ = length (seen_by (front ++ at ∷ [])) in
        let count : counted (length (seen_by front)) (object_refs (numbered_object Number o)) ≡ Some next =
        ap (λ (ns : List ℕ). counted (length (seen_by front)) ns) (refs_object Found o)
        ∙ (counts Found (object_refs o) (seen_by front) m.0 g ∙ ap (λ (zs : List ℕ). Some (length zs)) (sym seen)) in
        let all : length Found ≡ next + length m.0 = ap (λ (zs : List ℕ). length zs) m.1 ∙ length-append (seen_by (front ++ at ∷ [])) m.0 in
        let size : length (front ++ at ∷ []) ≡ length front + 1 = length-append front (at ∷ []) in
        let kept = object_kept Found few o (object_plain at c o there) (w.objects at o near there) (λ b k. (reached b).1 (reaching.held at b near (subst (λ (ns : List ℕ). Contains ns b) (sym refs) k))) in
        subst (λ os. AreObjects (length front) (length (seen_by front)) (length Found) (os ++ flat_map (objects_of s Number) rest)) (sym one) (
          before front rest at e,
          kept,
          (next, count, omega (arith, all), subst (λ (k : ℕ). AreObjects k next (length Found) (flat_map (objects_of s Number) rest)) size (objects_from (front ++ at ∷ []) rest f)),
        )

    -- ---- the values

    value_there : (x : Name) (v : Value) → Contains names x → finite.get s.globals x ≡ Some v → (a : ℕ) → Contains (value_refs v) a → Contains Found a
    value_there x v c e a k = (reached a).1 (reaching.named x a c (subst (λ o. Contains (held_refs value_refs o) a) (sym e) k))

    held_kept : (x : Name) → Contains names x → IsHeld (length names == 1) (held_of s Number x)
    held_kept x c = elim (has_value s x) [
      | inl v ↦ subst (λ o. IsHeld (length names == 1) o) (sym (ap (option_map (numbered Number)) v.1)) (value_kept Found few v.0 (All-contains (IsPlainIn s) names x w.plain.values c v.0 v.1) (value_there x v.0 c v.1))
      | inr none ↦ subst (λ o. IsHeld (length names == 1) o) (sym (ap (option_map (numbered Number)) none)) (eq-eqb (length names) 1 (w.alone x c none))
    ]

    values_kept : (xs : List Name) → ((x : Name) → Contains xs x → Contains names x) → AllByRecursion (IsHeld (length names == 1)) (map (held_of s Number) xs)
    values_kept [] k = tt
    values_kept (x ∷ xs) k = (held_kept x (k x (first_in x xs)), values_kept xs (λ y c. k y (later_in x xs y c)))

    -- ---- the part

    size : length (flat_map (objects_of s Number) Found) ≡ length Found
    size = as_many s Number Found (λ i d l. live (get_or Found i d) (Contains-get_or Found i d l))

    no_front : met s names [] ≡ Roots
    no_front = append-nil Roots

    pub part_is : HasPartText (part_of s names)
    part_is =
        let m = begins [] Found refl in
        let roots : seen_by [] ≡ all_noted [] Roots = ap (λ (ns : List ℕ). all_noted [] ns) no_front in
        let g : Found ≡ all_noted [] Roots ++ m.0 = m.1 ∙ ap (λ (zs : List ℕ). zs ++ m.0) roots in
        let all : length Found ≡ length (seen_by []) + length m.0 = ap (λ (zs : List ℕ). length zs) m.1 ∙ length-append (seen_by []) m.0 in
        let n = few in
        let z = size in
        record {
          some = w.some;
          few = w.plain.few;
          names = names_kept names w.ascend w.variables;
          as_many = length-map names (held_of s Number);
          values = values_kept names (λ x c. c);
          few_objects = subst (λ (k : ℕ). k < 2 ^ 32) (sym size) few;
          met = length (seen_by []);
          refs = ap (λ (ns : List ℕ). counted 0 ns) (refs_names Found s names) ∙ (counts Found Roots [] m.0 g ∙ ap (λ (zs : List ℕ). Some (length zs)) (sym roots));
          within = omega (arith, all, z);
          objects = subst (λ (k : ℕ). AreObjects 0 (length (seen_by [])) k (flat_map (objects_of s Number) Found)) (sym size) (objects_from [] Found refl);
        }
