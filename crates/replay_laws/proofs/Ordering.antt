-- What names reach in two states that are the same is reached in one order: index by index the addresses are paired.
use Rattle.std.proofs.Common.{◌≡◌, ℕ, ◌==◌, not, List, [], ◌∷◌, ◌++◌, Option, Some, None, refl, sym, ap, ◌∙◌, inl, inr, subst}
use Rattle.std.specs.Prelude.{Contains, filter, slice_get}
use Rattle.std.specs.List.{AllZip, flat_map}
use Rattle.std.specs.FinMap as finite
use Rattle.std.proofs.lemmas.Bool.{cases_eq, eq-eqb, ne_eqb}
use Rattle.py_value.specs.declared.key.Key.{Key}
use Rattle.py_value.specs.declared.value.Value.{Value}
use Rattle.py_heap.specs.declared.heap.Object.{Object}
use Rattle.py_heap.specs.declared.heap.Object.TheVariants as object
use Rattle.py_heap.specs.declared.state.State.{State}
use Rattle.py_heap.specs.References.{value_refs, pair_refs, object_refs}
use Rattle.py_heap.specs.Reaching.{held_refs, name_refs, refs_at, Reach, firsts, met}
use Rattle.py_heap.proofs.OneOrder.{one_list}
use Rattle.py_machine.specs.Runs.{Name}
use Rattle.py_laws.specs.Same.{ValuesMatch, equal, refs, PairsMatch, ObjectsMatch, BothOrNone, Both, SameBy}
use Rattle.py_laws.proofs.Partners.{none_in, first_in, later_in, reach_partner}
use Rattle.run_graph.proofs.Lists.{cons_cases}
use Rattle.run_graph.proofs.Reached.{reach_from_one, reach_by_one}

module _ (P : ℕ → ℕ → Type 0) where
  abbrev pub Zip : List ℕ → List ℕ → Type 0
  Zip xs ys = AllZip P xs ys

  zip_append : (xs ys zs ws : List ℕ) → Zip xs ys → Zip zs ws → Zip (xs ++ zs) (ys ++ ws)
  zip_append [] [] zs ws a b = b
  zip_append (x ∷ xs) (y ∷ ys) zs ws a b = (a.0, zip_append xs ys zs ws a.1 b)
  zip_append [] (y ∷ ys) zs ws a b = absurd a
  zip_append (x ∷ xs) [] zs ws a b = absurd a

  -- ---- what they refer to

  value_zip : (v w : Value) → ValuesMatch P v w → Zip (value_refs v) (value_refs w)
  value_zip _ _ (equal v none) = subst (λ ns. Zip ns ns) (sym none) tt
  value_zip _ _ (refs a b p) = (p, tt)

  items_zip : (vs ws : List Value) → AllZip (ValuesMatch P) vs ws → Zip (flat_map value_refs vs) (flat_map value_refs ws)
  items_zip [] [] m = tt
  items_zip (v ∷ vs) (w ∷ ws) m = zip_append (value_refs v) (value_refs w) (flat_map value_refs vs) (flat_map value_refs ws) (value_zip v w m.0) (items_zip vs ws m.1)
  items_zip [] (w ∷ ws) m = absurd m
  items_zip (v ∷ vs) [] m = absurd m

  pairs_zip : (vs ws : List (Key × Value)) → AllZip (PairsMatch P) vs ws → Zip (flat_map pair_refs vs) (flat_map pair_refs ws)
  pairs_zip [] [] m = tt
  pairs_zip (v ∷ vs) (w ∷ ws) m = zip_append (pair_refs v) (pair_refs w) (flat_map pair_refs vs) (flat_map pair_refs ws) (value_zip v.1 w.1 m.0.1) (pairs_zip vs ws m.1)
  pairs_zip [] (w ∷ ws) m = absurd m
  pairs_zip (v ∷ vs) [] m = absurd m

  held_zip : (o u : Option Value) → BothOrNone (ValuesMatch P) o u → Zip (held_refs value_refs o) (held_refs value_refs u)
  held_zip None None m = tt
  held_zip (Some v) (Some w) m = value_zip v w m
  held_zip None (Some w) m = absurd m
  held_zip (Some v) None m = absurd m

  object_zip : (o u : Option Object) → Both (ObjectsMatch P) o u → Zip (held_refs object_refs o) (held_refs object_refs u)
  object_zip (Some (object.List vs)) (Some (object.List ws)) m = items_zip vs ws m
  object_zip (Some (object.Tuple vs)) (Some (object.Tuple ws)) m = items_zip vs ws m
  object_zip (Some (object.Dict vs)) (Some (object.Dict ws)) m = pairs_zip vs ws m
  object_zip (Some (object.Function def)) (Some (object.Function other)) m = tt
  object_zip (Some (object.Handle name uses)) (Some (object.Handle other others)) m = tt
  object_zip (Some (object.List vs)) (Some (object.Tuple ws)) m = absurd m
  object_zip (Some (object.Tuple vs)) (Some (object.List ws)) m = absurd m
  object_zip (Some (object.Tuple vs)) (Some (object.Dict ws)) m = absurd m
  object_zip (Some (object.Tuple vs)) (Some (object.Function def)) m = absurd m
  object_zip (Some (object.Tuple vs)) (Some (object.Handle name uses)) m = absurd m
  object_zip (Some (object.Dict vs)) (Some (object.Tuple ws)) m = absurd m
  object_zip (Some (object.Function def)) (Some (object.Tuple ws)) m = absurd m
  object_zip (Some (object.Handle name uses)) (Some (object.Tuple ws)) m = absurd m
  object_zip (Some (object.List vs)) (Some (object.Dict ws)) m = absurd m
  object_zip (Some (object.List vs)) (Some (object.Function def)) m = absurd m
  object_zip (Some (object.List vs)) (Some (object.Handle name uses)) m = absurd m
  object_zip (Some (object.Dict vs)) (Some (object.List ws)) m = absurd m
  object_zip (Some (object.Dict vs)) (Some (object.Function def)) m = absurd m
  object_zip (Some (object.Dict vs)) (Some (object.Handle name uses)) m = absurd m
  object_zip (Some (object.Function def)) (Some (object.List ws)) m = absurd m
  object_zip (Some (object.Function def)) (Some (object.Dict ws)) m = absurd m
  object_zip (Some (object.Function def)) (Some (object.Handle name uses)) m = absurd m
  object_zip (Some (object.Handle name uses)) (Some (object.List ws)) m = absurd m
  object_zip (Some (object.Handle name uses)) (Some (object.Dict ws)) m = absurd m
  object_zip (Some (object.Handle name uses)) (Some (object.Function def)) m = absurd m
  object_zip (Some o) None m = absurd m
  object_zip None u m = absurd m

module _ (s t : State) (names : List Name) (P : ℕ → ℕ → Type 0) (h : SameBy P (Contains names) s t) where
  names_zip : (ns : List Name) → ((x : Name) → Contains ns x → Contains names x) → Zip P (flat_map (name_refs s) ns) (flat_map (name_refs t) ns)
  names_zip [] within = tt
  names_zip (x ∷ ns) within =
      zip_append P (name_refs s x) (name_refs t x) (flat_map (name_refs s) ns) (flat_map (name_refs t) ns)
      (held_zip P (finite.get s.globals x) (finite.get t.globals x) (h.names x (within x (first_in x ns)))) (names_zip ns (λ y n. within y (later_in x ns y n)))

  found_zip : (xs ys : List ℕ) → Zip P xs ys → Zip P (flat_map (refs_at s) xs) (flat_map (refs_at t) ys)
  found_zip [] [] z = tt
  found_zip (x ∷ xs) (y ∷ ys) z =
      zip_append P (refs_at s x) (refs_at t y) (flat_map (refs_at s) xs) (flat_map (refs_at t) ys)
      (object_zip P (slice_get s.heap x) (slice_get t.heap y) (h.objects x y z.0)) (found_zip xs ys z.1)
  found_zip [] (y ∷ ys) z = absurd z
  found_zip (x ∷ xs) [] z = absurd z

  met_zip : (xs ys : List ℕ) → Zip P xs ys → Zip P (met s names xs) (met t names ys)
  met_zip xs ys z =
      zip_append P (flat_map (name_refs s) names) (flat_map (name_refs t) names) (flat_map (refs_at s) xs) (flat_map (refs_at t) ys)
      (names_zip names (λ x n. n)) (found_zip xs ys z)

  -- ---- each once, where it comes first

  filter_zip : (m n : ℕ) → P m n → (xs ys : List ℕ) → Zip P xs ys → Zip P (filter (λ k. not (k == m)) xs) (filter (λ k. not (k == n)) ys)
  filter_zip m n p [] [] z = tt
  filter_zip m n p (x ∷ xs) (y ∷ ys) z = elim (cases_eq x m) [
    | inl e ↦
        let f : y ≡ n = h.pairs.left x y n z.0 (subst (λ k. P k n) (sym e) p) in
        rw (eq-eqb x m e, eq-eqb y n f) (filter_zip m n p xs ys z.1)
    | inr other ↦
        let differ : y ≡ n → ⊥ = λ f. other (h.pairs.right x m n (subst (P x) f z.0) p) in
        rw (ne_eqb x m other, ne_eqb y n differ) (z.0, filter_zip m n p xs ys z.1)
  ]
  filter_zip m n p [] (y ∷ ys) z = absurd z
  filter_zip m n p (x ∷ xs) [] z = absurd z

  firsts_zip : (xs ys : List ℕ) → Zip P xs ys → Zip P (firsts xs) (firsts ys)
  firsts_zip [] [] z = tt
  firsts_zip (x ∷ xs) (y ∷ ys) z = (z.0, filter_zip x y z.0 (firsts xs) (firsts ys) (firsts_zip xs ys z.1))
  firsts_zip [] (y ∷ ys) z = absurd z
  firsts_zip (x ∷ xs) [] z = absurd z

  -- ---- the partners of a list of addresses that are reached

  abbrev Images : List ℕ → Type 0
  Images xs = (ys : List ℕ) × Zip P xs ys × ((b : ℕ) → Contains ys b → Reach t names b)

  images : (xs : List ℕ) → ((a : ℕ) → Contains xs a → Reach s names a) → Images xs
  images [] sound = ([], tt, λ b n. absurd (none_in b n))
  images (x ∷ xs) sound =
      let z = reach_from_one s names x (sound x (first_in x xs)) in
      let p = reach_partner P (Contains names) s t h z.0 z.1 x z.2 in
      let more = images xs (λ a n. sound a (later_in x xs a n)) in
      (p.0 ∷ more.0, (p.1, more.1), λ b n. elim (cons_cases p.0 more.0 b n) [ inl e ↦ subst (Reach t names) e (reach_by_one t names z.0 p.0 z.1 p.2) | inr k ↦ more.2 b k ])

  one_image : (xs ys zs : List ℕ) → Zip P xs ys → Zip P xs zs → ys ≡ zs
  one_image [] [] [] a b = refl
  one_image (x ∷ xs) (y ∷ ys) (z ∷ zs) a b = ap (λ k. k ∷ ys) (h.pairs.left x y z a.0 b.0) ∙ ap (λ ks. z ∷ ks) (one_image xs ys zs a.1 b.1)
  one_image [] (y ∷ ys) zs a b = absurd a
  one_image [] [] (z ∷ zs) a b = absurd b
  one_image (x ∷ xs) [] zs a b = absurd a
  one_image (x ∷ xs) (y ∷ ys) [] a b = absurd b

  pub in_one_order : (a b : List ℕ) → ((at : ℕ) → Contains a at → Reach s names at) → ((at : ℕ) → Contains b at → Reach t names at) → a ≡ firsts (met s names a) → b ≡ firsts (met t names b) → Zip P a b
  in_one_order a b sound_a sound_b order_a order_b =
      let w = images a sound_a in
      let ys : List ℕ = w.0 in
      let z : Zip P a ys = w.1 in
      let other : Zip P a (firsts (met t names ys)) = subst (λ k. Zip P k (firsts (met t names ys))) (sym order_a) (firsts_zip (met s names a) (met t names ys) (met_zip a ys z)) in
      let e : ys ≡ firsts (met t names ys) = one_image a ys (firsts (met t names ys)) z other in
      let f : ys ≡ b = one_list t names ys b w.2 sound_b e order_b in
      subst (Zip P a) f z
