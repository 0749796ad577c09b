-- How long the bytes of a part are. An address is as long as the number of its object.
use Rattle.std.proofs.Common.{◌≡◌, ℕ, ℤ, ◌+◌, ◌<◌, ◌≤◌, Bool, true, false, List, [], ◌∷◌, ◌++◌, length, get_or, take, map, Option, Some, None, refl, sym, ap, ◌∙◌, subst, arith}
use Rattle.std.specs.Prelude.{SomeIff, option_to_list, slice_get}
use Rattle.std.specs.Option.{option_map}
use Rattle.std.specs.List.{flat_map}
use Rattle.std.specs.Int.{w128, cast_unsigned}
use Rattle.std.specs.FinMap as finite
use Rattle.std.proofs.lemmas.Grind.{flat_map-append}
use Rattle.std.proofs.lemmas.List.{length-append, take_all, take_more}
use Rattle.std.proofs.lemmas.List.Folds.{length-flat_map-take}
use Rattle.byteorder.specs.Numbers.{length-bytes_high_first}
use Rattle.py_value.specs.declared.key.Key.{Key}
use Rattle.py_value.specs.declared.value.Value.{Value}
use Rattle.py_value.specs.declared.value.Value.TheVariants as value
use Rattle.py_value.specs.Keys.{value_of}
use Rattle.py_heap.specs.declared.heap.Object.{Object}
use Rattle.py_heap.specs.declared.heap.Object.TheVariants as object
use Rattle.py_heap.specs.declared.state.State.{State}
use Rattle.part_bytes.specs.Lengths.{held_at, object_at}
use Rattle.part_bytes.specs.declared.part.PartValue.{PartValue}
use Rattle.part_bytes.specs.Parts.{order, number_in, numbered, numbered_pair, numbered_object, held_of, objects_of, part_of}
use Rattle.part_bytes.specs.Texts.{four, sixteen, name_bytes, text_bytes, value_bytes, held_bytes, pair_bytes, object_bytes, bytes_of, part_text}

pub length-four : (n : ℕ) → length (four n) ≡ 4
unfolding four
length-four n = length-bytes_high_first 4 n

pub length-sixteen : (n : ℤ) → length (sixteen n) ≡ 16
unfolding sixteen
length-sixteen n = length-bytes_high_first 16 (cast_unsigned w128 n)

pub length-text_bytes : (text : List ℕ) → length (text_bytes text) ≡ 4 + length text
length-text_bytes text = omega (arith, length-append (four (length text)) text, length-four (length text))

pub length-pair_bytes : (pair : Key × Value) → length (pair_bytes pair) ≡ length (value_bytes (value_of pair.0)) + length (value_bytes pair.1)
length-pair_bytes pair = length-append (value_bytes (value_of pair.0)) (value_bytes pair.1)

pub length-list : (items : List Value) → length (object_bytes (object.List items)) ≡ 5 + length (flat_map value_bytes items)
length-list items = omega (arith, length-append (four (length items)) (flat_map value_bytes items), length-four (length items))

pub length-tuple : (items : List Value) → length (object_bytes (object.Tuple items)) ≡ 5 + length (flat_map value_bytes items)
length-tuple items = omega (arith, length-append (four (length items)) (flat_map value_bytes items), length-four (length items))

pub length-dict : (pairs : List (Key × Value)) → length (object_bytes (object.Dict pairs)) ≡ 5 + length (flat_map pair_bytes pairs)
length-dict pairs = omega (arith, length-append (four (length pairs)) (flat_map pair_bytes pairs), length-four (length pairs))

pub ruleset lengths = (length-four, length-sixteen, length-text_bytes)

-- ---- piece by piece

-- the total has gone up by the bytes of these, and four bytes hold it
abbrev pub Reaches : {A : Type 0} → (A → List ℕ) → ℕ → ℕ → List A → Type 0
Reaches f total now xs = (now ≡ total + length (flat_map f xs)) × (now < 4294967296)

module _ {A : Type 0} (f : A → List ℕ) (total now : ℕ) (xs : List A) (i : ℕ) where
  -- the total when all is counted
  pub sum_done : length xs ≤ i → Reaches f total now (take i xs) → (total + length (flat_map f xs) < 4294967296) × (now ≡ total + length (flat_map f xs))
  sum_done past far =
      let e : now ≡ total + length (flat_map f xs) = far.0 ∙ ap (λ (ys : List A). total + length (flat_map f ys)) (take_all i xs past) in
      (subst (λ (n : ℕ). n < 4294967296) e far.1, e)

  module _ (x d : A) (within : i < length xs) (is : x ≡ get_or xs i d) (far : Reaches f total now (take i xs)) (n : ℕ) (one : n ≡ length (f x)) where
    piece : length (flat_map f (take i xs ++ x ∷ [])) ≡ length (flat_map f (take i xs)) + length (f x)
    piece = ap (λ (zs : List ℕ). length zs) (flat_map-append f (take i xs) (x ∷ []))
        ∙ omega (arith, length-append (flat_map f (take i xs)) (f x ++ []), length-append (f x) [])

    -- the total goes up by one piece more
    pub sum_more : (next : ℕ) → (now + n < 4294967296) × (next ≡ now + n) → Reaches f total next (take (i + 1) xs)
    sum_more next more =
        let front : take (i + 1) xs ≡ take i xs ++ x ∷ [] = take_more xs i d within ∙ ap (λ (y : A). take i xs ++ y ∷ []) (sym is) in
        let sum : length (flat_map f (take (i + 1) xs)) ≡ length (flat_map f (take i xs)) + length (f x) = ap (λ (zs : List A). length (flat_map f zs)) front ∙ piece in
        (omega (arith, more.1, far.0, sum, one), omega (arith, more.0, more.1))

    -- too many with this piece is too many with all
    pub sum_past : ¬ (now + n < 4294967296) → ¬ (total + length (flat_map f xs) < 4294967296)
    sum_past past fits =
        let all = length-flat_map-take f xs i d within in
        let same : length (f x) ≡ length (f (get_or xs i d)) = ap (λ (y : A). length (f y)) is in
        past (omega (arith, all, same, far.0, fits, one))

-- the same by an equal number
pub as_many_bytes : (result : Option ℕ) (m n : ℕ) → m ≡ n → SomeIff result (m < 4294967296) m → SomeIff result (n < 4294967296) n
as_many_bytes result m n e h = subst (λ (k : ℕ). SomeIff result (k < 4294967296) k) e h

pub length-object_at : (s : State) (at : ℕ) (o : Object) → slice_get s.heap at ≡ Some o → length (object_bytes o) ≡ length (object_at s at)
length-object_at s at o e =
    let one : object_at s at ≡ flat_map object_bytes (option_to_list (Some o)) = ap (λ (found : Option Object). flat_map object_bytes (option_to_list found)) e in
    sym (ap (λ (zs : List ℕ). length zs) one ∙ omega (arith, length-append (object_bytes o) []))

-- ---- by numbers and by addresses

length-flat_map-map : {A B : Type 0} (f : A → List ℕ) (g : B → List ℕ) (h : A → B) → ((x : A) → length (g (h x)) ≡ length (f x)) → (xs : List A) → length (flat_map g (map h xs)) ≡ length (flat_map f xs)
length-flat_map-map f g h same [] = refl
length-flat_map-map f g h same (x ∷ xs) =
    omega (arith, length-append (g (h x)) (flat_map g (map h xs)), length-append (f x) (flat_map f xs), same x, length-flat_map-map f g h same xs)

module _ (number : ℕ → ℕ) where
  length-numbered : (v : Value) → length (value_bytes (numbered number v)) ≡ length (value_bytes v)
  length-numbered (value.Ref at) = omega (arith, length-four (number at), length-four at)
  length-numbered value.Nothing = refl
  length-numbered (value.Bool truth) = refl
  length-numbered (value.Number n) = refl
  length-numbered (value.Text text) = refl
  length-numbered (value.Builtin builtin) = refl

  length-numbered_pair : (pair : Key × Value) → length (pair_bytes (numbered_pair number pair)) ≡ length (pair_bytes pair)
  length-numbered_pair pair = omega (arith, length-pair_bytes (numbered_pair number pair), length-pair_bytes pair, length-numbered pair.1)

  length-numbered_object : (o : Object) → length (object_bytes (numbered_object number o)) ≡ length (object_bytes o)
  length-numbered_object (object.List items) =
      omega (arith, length-list (map (numbered number) items), length-list items, length-flat_map-map value_bytes value_bytes (numbered number) length-numbered items)
  length-numbered_object (object.Tuple items) =
      omega (arith, length-tuple (map (numbered number) items), length-tuple items, length-flat_map-map value_bytes value_bytes (numbered number) length-numbered items)
  length-numbered_object (object.Dict pairs) =
      omega (arith, length-dict (map (numbered_pair number) pairs), length-dict pairs, length-flat_map-map pair_bytes pair_bytes (numbered_pair number) length-numbered_pair pairs)
  length-numbered_object (object.Function def) = refl
  length-numbered_object (object.Handle name uses) = refl

  length-held : (held : Option Value) → length (held_bytes (option_map (numbered number) held)) ≡ length (held_bytes held)
  length-held None = refl
  length-held (Some v) = length-numbered v

  module _ (s : State) where
    length-held_by : (names : List (List ℕ)) → length (flat_map held_bytes (map (held_of s number) names)) ≡ length (flat_map (held_at s) names)
    length-held_by names = length-flat_map-map (held_at s) held_bytes (held_of s number) (λ name. length-held (finite.get s.globals name)) names

    length-objects_of : (at : ℕ) → length (flat_map object_bytes (objects_of s number at)) ≡ length (object_at s at)
    length-objects_of at = length-flat_map-map object_bytes object_bytes (numbered_object number) length-numbered_object (option_to_list (slice_get s.heap at))

    length-objects_by : (found : List ℕ) → length (flat_map object_bytes (flat_map (objects_of s number) found)) ≡ length (flat_map (object_at s) found)
    length-objects_by [] = refl
    length-objects_by (at ∷ found) =
        ap (λ (zs : List ℕ). length zs) (flat_map-append object_bytes (objects_of s number at) (flat_map (objects_of s number) found))
        ∙ omega (
          arith,
          length-append (flat_map object_bytes (objects_of s number at)) (flat_map object_bytes (flat_map (objects_of s number) found)),
          length-append (object_at s at) (flat_map (object_at s) found),
          length-objects_of at,
          length-objects_by found,
        )

-- the two counts, the names, what they have, and the objects
pub length-part : (part : PartValue) → length (bytes_of part)
    ≡ 8 + length (flat_map name_bytes part.names) + length (flat_map held_bytes part.values) + length (flat_map object_bytes part.objects)
length-part part =
    let p : List ℕ = four (length part.names) in
    let q : List ℕ = flat_map name_bytes part.names in
    let r : List ℕ = flat_map held_bytes part.values in
    let t : List ℕ = four (length part.objects) in
    let u : List ℕ = flat_map object_bytes part.objects in
    let whole : length (bytes_of part) ≡ length ((((p ++ q) ++ r) ++ t) ++ u) = refl in
    omega (
      arith,
      whole,
      length-append (((p ++ q) ++ r) ++ t) u,
      length-append ((p ++ q) ++ r) t,
      length-append (p ++ q) r,
      length-append p q,
      length-four (length part.names),
      length-four (length part.objects),
    )

-- the same by lists that are those of the part
pub length-part_of : (part : PartValue) (ns : List (List ℕ)) (vs : List (Option Value)) (os : List Object) → ns ≡ part.names → vs ≡ part.values → os ≡ part.objects
    → length (bytes_of part) ≡ 8 + length (flat_map name_bytes ns) + length (flat_map held_bytes vs) + length (flat_map object_bytes os)
length-part_of part ns vs os e f g =
    length-part part
    ∙ (ap (λ (xs : List (List ℕ)). 8 + length (flat_map name_bytes xs) + length (flat_map held_bytes part.values) + length (flat_map object_bytes part.objects)) (sym e)
    ∙ (ap (λ (xs : List (Option Value)). 8 + length (flat_map name_bytes ns) + length (flat_map held_bytes xs) + length (flat_map object_bytes part.objects)) (sym f)
    ∙ ap (λ (xs : List Object). 8 + length (flat_map name_bytes ns) + length (flat_map held_bytes vs) + length (flat_map object_bytes xs)) (sym g)))

pub length-part_text : (s : State) (names : List (List ℕ)) → length (part_text s names)
    ≡ 8 + length (flat_map name_bytes names) + length (flat_map (held_at s) names) + length (flat_map (object_at s) (order s names))
length-part_text s names =
    let number : ℕ → ℕ = number_in (order s names) in
    omega (arith, length-part (part_of s names), length-held_by number s names, length-objects_by number s (order s names))

-- the objects in the list that is their order
pub length-part_by : (s : State) (names : List (List ℕ)) (found : List ℕ) → found ≡ order s names
    → length (part_text s names) ≡ 8 + length (flat_map name_bytes names) + length (flat_map (held_at s) names) + length (flat_map (object_at s) found)
length-part_by s names found is =
    length-part_text s names ∙ ap (λ (ns : List ℕ). 8 + length (flat_map name_bytes names) + length (flat_map (held_at s) names) + length (flat_map (object_at s) ns)) (sym is)
