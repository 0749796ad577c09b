-- States that are the same are equal once their objects are numbered anew.
use Rattle.std.proofs.Common.{◌≡◌, ℕ, zero, suc, ◌<◌, List, [], ◌∷◌, length, get_or, Option, Some, None, refl, sym, ap, ◌∙◌, subst, arith}
use Rattle.std.specs.Prelude.{Contains, slice_get}
use Rattle.std.specs.List.{AllZip}
use Rattle.std.specs.FinMap as finite
use Rattle.std.specs.Cmp.Lexicographic.{nat_list_cmp_total}
use Rattle.std.proofs.lemmas.List.{ext_get_or}
use Rattle.std.proofs.lemmas.Option.{none-some, slice_get-get_or}
use Rattle.py_value.specs.declared.key.Key.{Key}
use Rattle.py_value.specs.declared.value.Value.{Value}
use Rattle.py_value.specs.declared.value.Value.TheVariants as value
use Rattle.py_heap.specs.declared.heap.Object.{Object}
use Rattle.py_heap.specs.declared.heap.Object.TheVariants as object
use Rattle.py_heap.specs.declared.state.State.{State}
use Rattle.py_heap.specs.Reaching.{IsListOf, firsts, met}
use Rattle.py_machine.specs.Runs.{Name}
use Rattle.py_laws.specs.Same.{HasPair, ValuesMatch, equal, refs, PairsMatch, ObjectsMatch, BothOrNone, Both, SameBy, SameStates, Every}
use Rattle.py_laws.proofs.Matching.{Turned, Through, BothOrNone-through, Both-through, value_through, object_through}
use Rattle.py_laws.proofs.Sameness.{same_by_turned, same_turned}
use Rattle.graph_model.specs.Faults.{TextBelow}
use Rattle.linked_parts.proofs.Lists.{below_on, never_below_itself}
use Rattle.run_graph.proofs.Only.{same_list}
use Rattle.replay_laws.specs.Tidied.{AtPosition, IsTidied}
use Rattle.replay_laws.proofs.Ending.{value_on}
use Rattle.replay_laws.proofs.Ordering.{in_one_order}

-- ---- what matches by pairs of equal numbers is equal

module _ (R : ℕ → ℕ → Type 0) (one : (a b : ℕ) → R a b → a ≡ b) where
  value_equal : (v w : Value) → ValuesMatch R v w → v ≡ w
  value_equal _ _ (equal v none) = refl
  value_equal _ _ (refs a b p) = ap (λ k. value.Ref k) (one a b p)

  items_equal : (vs ws : List Value) → AllZip (ValuesMatch R) vs ws → vs ≡ ws
  items_equal [] [] m = refl
  items_equal (v ∷ vs) (w ∷ ws) m = ap (λ z. z ∷ vs) (value_equal v w m.0) ∙ ap (λ zs. w ∷ zs) (items_equal vs ws m.1)
  items_equal [] (w ∷ ws) m = absurd m
  items_equal (v ∷ vs) [] m = absurd m

  pair_equal : (p q : Key × Value) → PairsMatch R p q → p ≡ q
  pair_equal p q m = ap (λ k. (k, p.1)) m.0 ∙ ap (λ v. (q.0, v)) (value_equal p.1 q.1 m.1)

  pairs_equal : (vs ws : List (Key × Value)) → AllZip (PairsMatch R) vs ws → vs ≡ ws
  pairs_equal [] [] m = refl
  pairs_equal (v ∷ vs) (w ∷ ws) m = ap (λ z. z ∷ vs) (pair_equal v w m.0) ∙ ap (λ zs. w ∷ zs) (pairs_equal vs ws m.1)
  pairs_equal [] (w ∷ ws) m = absurd m
  pairs_equal (v ∷ vs) [] m = absurd m

  object_equal : (o u : Object) → ObjectsMatch R o u → o ≡ u
  object_equal (object.List vs) (object.List ws) m = ap (λ z. object.List z) (items_equal vs ws m)
  object_equal (object.Tuple vs) (object.Tuple ws) m = ap (λ z. object.Tuple z) (items_equal vs ws m)
  object_equal (object.Dict vs) (object.Dict ws) m = ap (λ z. object.Dict z) (pairs_equal vs ws m)
  object_equal (object.Function def) (object.Function other) m = ap (λ z. object.Function z) m
  object_equal (object.Handle name uses) (object.Handle other others) m = ap (λ z. object.Handle z uses) m.0 ∙ ap (λ z. object.Handle other z) m.1
  object_equal (object.List vs) (object.Tuple ws) m = absurd m
  object_equal (object.Tuple vs) (object.List ws) m = absurd m
  object_equal (object.Tuple vs) (object.Dict ws) m = absurd m
  object_equal (object.Tuple vs) (object.Function def) m = absurd m
  object_equal (object.Tuple vs) (object.Handle name uses) m = absurd m
  object_equal (object.Dict vs) (object.Tuple ws) m = absurd m
  object_equal (object.Function def) (object.Tuple ws) m = absurd m
  object_equal (object.Handle name uses) (object.Tuple ws) m = absurd m
  object_equal (object.List vs) (object.Dict ws) m = absurd m
  object_equal (object.List vs) (object.Function def) m = absurd m
  object_equal (object.List vs) (object.Handle name uses) m = absurd m
  object_equal (object.Dict vs) (object.List ws) m = absurd m
  object_equal (object.Dict vs) (object.Function def) m = absurd m
  object_equal (object.Dict vs) (object.Handle name uses) m = absurd m
  object_equal (object.Function def) (object.List ws) m = absurd m
  object_equal (object.Function def) (object.Dict ws) m = absurd m
  object_equal (object.Function def) (object.Handle name uses) m = absurd m
  object_equal (object.Handle name uses) (object.List ws) m = absurd m
  object_equal (object.Handle name uses) (object.Dict ws) m = absurd m
  object_equal (object.Handle name uses) (object.Function def) m = absurd m

  held_equal : (o u : Option Value) → BothOrNone (ValuesMatch R) o u → o ≡ u
  held_equal None None m = refl
  held_equal (Some v) (Some w) m = ap (λ z. Some z) (value_equal v w m)
  held_equal None (Some w) m = absurd m
  held_equal (Some v) None m = absurd m

-- ---- lists that match index by index

zip_length : (P : ℕ → ℕ → Type 0) (xs ys : List ℕ) → AllZip P xs ys → length xs ≡ length ys
zip_length P [] [] z = refl
zip_length P (x ∷ xs) (y ∷ ys) z = ap suc (zip_length P xs ys z.1)
zip_length P [] (y ∷ ys) z = absurd z
zip_length P (x ∷ xs) [] z = absurd z

zip_at : (P : ℕ → ℕ → Type 0) (xs ys : List ℕ) → AllZip P xs ys → (k a : ℕ) → slice_get xs k ≡ Some a → (b : ℕ) × (slice_get ys k ≡ Some b) × P a b
zip_at P [] ys z k a e = absurd (none-some a e)
zip_at P (x ∷ xs) (y ∷ ys) z zero a e = (y, refl, subst (λ n. P n y) (same e) z.0)
  where
    same : Some x ≡ Some a → x ≡ a
    same i = cc
zip_at P (x ∷ xs) (y ∷ ys) z (suc k) a e = zip_at P xs ys z.1 k a e
zip_at P (x ∷ xs) [] z k a e = absurd z

-- ---- two tidied states

module _ (s t u w : State) (h : SameStates s t) (a : IsTidied s u) (b : IsTidied t w) where
  abbrev P : ℕ → ℕ → Type 0
  P = HasPair h.names.by

  one_names : a.names ≡ b.names
  one_names = same_list TextBelow below_on never_below_itself a.names b.names a.ascends b.ascends
      (λ x c. (b.all x).1 (value_on s t h.names x ((a.all x).0 c))) (λ x c. (a.all x).1 (value_on t s (same_turned Every s t h.names) x ((b.all x).0 c)))

  reached_there : IsListOf t a.names b.order
  reached_there = subst (λ ns. IsListOf t ns b.order) (sym one_names) b.reached

  order_there : b.order ≡ firsts (met t a.names b.order)
  order_there = subst (λ ns. b.order ≡ firsts (met t ns b.order)) (sym one_names) b.in_order

  over_names : SameBy P (Contains a.names) s t
  over_names = record { pairs = h.names.same.pairs; names = λ x n. h.names.same.names x tt; objects = h.names.same.objects }

  orders : AllZip P a.order b.order
  orders = in_one_order s t a.names P over_names a.order b.order (λ at c. (a.reached at).0 c) (λ at c. (reached_there at).0 c) a.in_order order_there

  -- index by index
  abbrev Positions : ℕ → ℕ → Type 0
  Positions = Through (Turned (AtPosition a.order)) (Through P (AtPosition b.order))

  one_position : (k l : ℕ) → Positions k l → k ≡ l
  one_position k l (at, left, (bt, p, right)) =
      let z = zip_at P a.order b.order orders k at left in
      let same : z.0 ≡ bt = h.names.same.pairs.left at z.0 bt z.2 p in
      b.same.pairs.left bt k l (subst (λ n. AtPosition b.order n k) same z.1) right

  turned : SameBy (Turned (AtPosition a.order)) Every u s
  turned = same_by_turned (AtPosition a.order) Every s u a.same

  names_match : (x : Name) → BothOrNone (ValuesMatch Positions) (finite.get u.globals x) (finite.get w.globals x)
  names_match x =
      BothOrNone-through (ValuesMatch (Turned (AtPosition a.order))) (ValuesMatch (Through P (AtPosition b.order))) (ValuesMatch Positions)
      (value_through (Turned (AtPosition a.order)) (Through P (AtPosition b.order))) _ (finite.get s.globals x) _ (turned.names x tt)
      (BothOrNone-through (ValuesMatch P) (ValuesMatch (AtPosition b.order)) (ValuesMatch (Through P (AtPosition b.order))) (value_through P (AtPosition b.order)) _ (finite.get t.globals x) _
      (h.names.same.names x tt) (b.same.names x tt))

  objects_match : (k at bt : ℕ) → AtPosition a.order at k → P at bt → AtPosition b.order bt k → Both (ObjectsMatch Positions) (slice_get u.heap k) (slice_get w.heap k)
  objects_match k at bt left p right =
      Both-through (ObjectsMatch (Turned (AtPosition a.order))) (ObjectsMatch (Through P (AtPosition b.order))) (ObjectsMatch Positions)
      (object_through (Turned (AtPosition a.order)) (Through P (AtPosition b.order))) _ (slice_get s.heap at) _ (turned.objects k at left)
      (Both-through (ObjectsMatch P) (ObjectsMatch (AtPosition b.order)) (ObjectsMatch (Through P (AtPosition b.order))) (object_through P (AtPosition b.order)) _ (slice_get t.heap bt) _
      (h.names.same.objects at bt p) (b.same.objects bt k right))

  one_globals : u.globals ≡ w.globals
  one_globals = finite.same_map nat_list_cmp_total (finite.slice_cmp-IsAntisymmetric finite.nat_cmp-IsAntisymmetric) u.globals w.globals
      (λ x. held_equal Positions one_position (finite.get u.globals x) (finite.get w.globals x) (names_match x))

  one_size : length u.heap ≡ length w.heap
  one_size = let m = zip_length P a.order b.order orders in a.size ∙ (m ∙ sym b.size)

  abbrev D : Object
  D = object.List []

  one_object : (k : ℕ) → k < length u.heap → get_or u.heap k D ≡ get_or w.heap k D
  one_object k l =
      let size = a.size in
      let at : slice_get a.order k ≡ Some (get_or a.order k 0) = slice_get-get_or a.order k 0 (omega (arith, l, size)) in
      let z = zip_at P a.order b.order orders k (get_or a.order k 0) at in
      let m = objects_match k (get_or a.order k 0) z.0 at z.2 z.1 in
      let f : slice_get u.heap k ≡ Some (get_or u.heap k D) = slice_get-get_or u.heap k D l in
      let g : slice_get w.heap k ≡ Some (get_or w.heap k D) = slice_get-get_or w.heap k D (omega (arith, l, one_size)) in
      object_equal Positions one_position (get_or u.heap k D) (get_or w.heap k D)
      (subst (λ o. Both (ObjectsMatch Positions) (Some (get_or u.heap k D)) o) g (subst (λ o. Both (ObjectsMatch Positions) o (slice_get w.heap k)) f m))

  one_heap : u.heap ≡ w.heap
  one_heap = ext_get_or D u.heap w.heap one_size one_object

  pub tidied_equal : u ≡ w
  tidied_equal =
      ap (λ g. record u { globals = g }) one_globals
      ∙ (ap (λ l. record u { globals = w.globals; heap = l }) one_heap
      ∙ (ap (λ n. record u { globals = w.globals; heap = w.heap; count = n }) (a.count ∙ (h.count ∙ sym b.count))
      ∙ ap (λ n. record u { globals = w.globals; heap = w.heap; count = w.count; meter = n }) (a.meter ∙ (h.meter ∙ sym b.meter))))
