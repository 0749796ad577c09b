-- States that are the same over some names have one part with these names.
use Rattle.std.proofs.Common.{◌≡◌, ℕ, zero, suc, ◌+◌, List, [], ◌∷◌, length, map, Option, Some, None, refl, sym, ap, ◌∙◌, subst, arith}
use Rattle.std.specs.Prelude.{Contains, slice_get, option_to_list}
use Rattle.std.specs.Option.{option_map}
use Rattle.std.specs.List.{flat_map, AllZip}
use Rattle.std.specs.FinMap as finite
use Rattle.py_value.specs.declared.key.Key.{Key}
use Rattle.py_value.specs.declared.value.Value.{Value}
use Rattle.py_value.specs.declared.value.Value.TheVariants as value
use Rattle.py_heap.specs.declared.heap.Object.{Object}
use Rattle.py_heap.specs.declared.heap.Object.TheVariants as object
use Rattle.py_heap.specs.declared.state.State.{State}
use Rattle.py_heap.specs.References.{value_refs, pair_refs, object_refs, IsClosed}
use Rattle.py_heap.specs.Reaching.{held_refs, name_refs, refs_at, met}
use Rattle.py_machine.specs.Runs.{Name}
use Rattle.py_laws.specs.Same.{ValuesMatch, equal, refs, PairsMatch, ObjectsMatch, BothOrNone, Both, HasPair, SameBy, Same}
use Rattle.py_laws.proofs.Zipped.{zip_append}
use Rattle.part_bytes.specs.declared.part.PartValue.{PartValue}
use Rattle.part_bytes.specs.Parts.{found_by, order, number_in, numbered, numbered_pair, numbered_object, held_of, objects_of, part_of}
use Rattle.part_bytes.proofs.Orders.{order_stays}
use Rattle.replay_laws.proofs.Zips.{map_same, flat_same, map_alike, flat_zip, flat_alike, number_zip, firsts_zip}

-- ---- what matches refers to paired addresses

module _ (ps : ℕ → ℕ → Type 0) where
  value_refs_zip : (v w : Value) → ValuesMatch ps v w → AllZip ps (value_refs v) (value_refs w)
  value_refs_zip _ _ (equal v n) = subst (λ (ns : List ℕ). AllZip ps ns ns) (sym n) tt
  value_refs_zip _ _ (refs a b p) = (p, tt)

  object_refs_zip : (o u : Object) → ObjectsMatch ps o u → AllZip ps (object_refs o) (object_refs u)
  object_refs_zip (object.List items) (object.List others) h = flat_zip ps (ValuesMatch ps) value_refs value_refs value_refs_zip items others h
  object_refs_zip (object.Tuple items) (object.Tuple others) h = flat_zip ps (ValuesMatch ps) value_refs value_refs value_refs_zip items others h
  object_refs_zip (object.Dict pairs) (object.Dict others) h = flat_zip ps (PairsMatch ps) pair_refs pair_refs (λ p q m. value_refs_zip p.1 q.1 m.1) pairs others h
  object_refs_zip (object.Function def) (object.Function other) h = tt
  object_refs_zip (object.Handle name uses) (object.Handle other others) h = tt
  object_refs_zip _ _ h = absurd h

  held_refs_zip : (o u : Option Value) → BothOrNone (ValuesMatch ps) o u → AllZip ps (held_refs value_refs o) (held_refs value_refs u)
  held_refs_zip (Some v) (Some w) h = value_refs_zip v w h
  held_refs_zip None None h = tt
  held_refs_zip (Some v) None h = absurd h
  held_refs_zip None (Some w) h = absurd h

  both_refs_zip : (o u : Option Object) → Both (ObjectsMatch ps) o u → AllZip ps (held_refs object_refs o) (held_refs object_refs u)
  both_refs_zip (Some o) (Some u) h = object_refs_zip o u h
  both_refs_zip _ _ h = absurd h

  -- ---- what matches is equal by number, if paired addresses have one number

  module _ (f g : ℕ → ℕ) (numbers : (a b : ℕ) → ps a b → f a ≡ g b) where
    no_reference : (v : Value) → value_refs v ≡ [] → numbered f v ≡ numbered g v
    no_reference (value.Ref a) n = cc
    no_reference value.Nothing n = refl
    no_reference (value.Bool truth) n = refl
    no_reference (value.Number number) n = refl
    no_reference (value.Text text) n = refl
    no_reference (value.Builtin builtin) n = refl

    one_value : (v w : Value) → ValuesMatch ps v w → numbered f v ≡ numbered g w
    one_value _ _ (equal v n) = no_reference v n
    one_value _ _ (refs a b p) = ap value.Ref (numbers a b p)

    one_pair : (p q : Key × Value) → PairsMatch ps p q → numbered_pair f p ≡ numbered_pair g q
    one_pair p q m = ap (λ (k : Key). let pair : Key × Value = (k, numbered f p.1) in pair) m.0
        ∙ ap (λ (v : Value). let pair : Key × Value = (q.0, v) in pair) (one_value p.1 q.1 m.1)

    one_object : (o u : Object) → ObjectsMatch ps o u → numbered_object f o ≡ numbered_object g u
    one_object (object.List items) (object.List others) h = ap object.List (map_same (ValuesMatch ps) (numbered f) (numbered g) one_value items others h)
    one_object (object.Tuple items) (object.Tuple others) h = ap object.Tuple (map_same (ValuesMatch ps) (numbered f) (numbered g) one_value items others h)
    one_object (object.Dict pairs) (object.Dict others) h = ap object.Dict (map_same (PairsMatch ps) (numbered_pair f) (numbered_pair g) one_pair pairs others h)
    one_object (object.Function def) (object.Function other) h = ap object.Function h
    one_object (object.Handle name uses) (object.Handle other others) h = ap (λ n. object.Handle n uses) h.0 ∙ ap (λ n. object.Handle other n) h.1
    one_object _ _ h = absurd h

    one_held : (o u : Option Value) → BothOrNone (ValuesMatch ps) o u → option_map (numbered f) o ≡ option_map (numbered g) u
    one_held (Some v) (Some w) h = ap Some (one_value v w h)
    one_held None None h = refl
    one_held (Some v) None h = absurd h
    one_held None (Some w) h = absurd h

    one_listed : (o u : Option Object) → Both (ObjectsMatch ps) o u → map (numbered_object f) (option_to_list o) ≡ map (numbered_object g) (option_to_list u)
    one_listed (Some o) (Some u) h = ap (λ (x : Object). x ∷ []) (one_object o u h)
    one_listed _ _ h = absurd h

-- ---- states that are the same by pairs

module _ (ps : ℕ → ℕ → Type 0) (names : List Name) (s t : State) (same : SameBy ps (Contains names) s t) where
  found_zip : (n : ℕ) → AllZip ps (found_by n s names) (found_by n t names)
  found_zip zero = tt
  found_zip (suc n) =
      let roots = flat_alike ps (name_refs s) (name_refs t) names (λ name c. held_refs_zip ps (finite.get s.globals name) (finite.get t.globals name) (same.names name c)) in
      let more = flat_zip ps ps (refs_at s) (refs_at t) (λ a b p. both_refs_zip ps (slice_get s.heap a) (slice_get t.heap b) (same.objects a b p)) (found_by n s names) (found_by n t names) (found_zip n) in
      firsts_zip ps same.pairs (met s names (found_by n s names)) (met t names (found_by n t names))
      (zip_append ps (flat_map (name_refs s) names) (flat_map (name_refs t) names) (flat_map (refs_at s) (found_by n s names)) (flat_map (refs_at t) (found_by n t names)) roots more)

  module _ (closed : IsClosed s) (other : IsClosed t) where
    order_zip : AllZip ps (order s names) (order t names)
    order_zip =
        let turned : found_by (length s.heap + length t.heap) t names ≡ found_by (length t.heap + length s.heap) t names =
        let e : length s.heap + length t.heap ≡ length t.heap + length s.heap = omega arith in ap (λ n. found_by n t names) e in
        let left : found_by (length s.heap + length t.heap) s names ≡ order s names = order_stays s names closed (length t.heap) in
        let right : found_by (length s.heap + length t.heap) t names ≡ order t names = turned ∙ order_stays t names other (length s.heap) in
        subst (λ ns. AllZip ps (order s names) ns) right (subst (λ ns. AllZip ps ns (found_by (length s.heap + length t.heap) t names)) left (found_zip (length s.heap + length t.heap)))

    numbers : (a b : ℕ) → ps a b → number_in (order s names) a ≡ number_in (order t names) b
    numbers = number_zip ps same.pairs (order s names) (order t names) order_zip

    one_part_by : part_of s names ≡ part_of t names
    one_part_by =
        let f : ℕ → ℕ = number_in (order s names) in
        let g : ℕ → ℕ = number_in (order t names) in
        let values : map (held_of s f) names ≡ map (held_of t g) names = map_alike (held_of s f) (held_of t g) names
        (λ name c. one_held ps f g numbers (finite.get s.globals name) (finite.get t.globals name) (same.names name c)) in
        let objects : flat_map (objects_of s f) (order s names) ≡ flat_map (objects_of t g) (order t names) = flat_same ps (objects_of s f) (objects_of t g)
        (λ a b p. one_listed ps f g numbers (slice_get s.heap a) (slice_get t.heap b) (same.objects a b p)) (order s names) (order t names) order_zip in
        ap (λ (vs : List (Option Value)). let part : PartValue = record { names = names; values = vs; objects = flat_map (objects_of s f) (order s names) } in part) values
        ∙ ap (λ (os : List Object). let part : PartValue = record { names = names; values = map (held_of t g) names; objects = os } in part) objects

pub one_part : (names : List Name) (s t : State) → IsClosed s → IsClosed t → Same (Contains names) s t → part_of s names ≡ part_of t names
one_part names s t closed other same = one_part_by (HasPair same.by) names s t same.same closed other
