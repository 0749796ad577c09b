-- Tables of texts, as they grow.
use Rattle.std.proofs.Common.{◌≡◌, ℕ, zero, suc, ◌+◌, ◌<◌, ◌≤◌, not, ◌||◌, Bool, true, false, cond, List, [], ◌∷◌, ◌++◌, length, get_or, take, map, refl, sym, ap, ◌∙◌, subst, inl, inr, arith}
use Rattle.std.specs.Prelude.{if◌then◌else◌, nat_lt, slice_get, option_to_list, Option, Some, None}
use Rattle.std.specs.Option.{option_map}
use Rattle.std.specs.Str.{bytes_eq}
use Rattle.std.specs.List.{flat_map, fold, list_any, position, position_or_len}
use Rattle.std.specs.FinMap as finite
use Rattle.std.proofs.lemmas.Bool.{cases_Bool, ltb-false}
use Rattle.std.proofs.lemmas.List.{append-nil, map-append, length-map, flat_map_more, take_more, take_all}
use Rattle.std.proofs.lemmas.List.Sums.{prefix_len-le-length}
use Rattle.std.proofs.lemmas.Grind.{fold-append, flat_map-append}
use Rattle.py_value.specs.declared.key.Key.{Key}
use Rattle.py_value.specs.declared.value.Value.{Value}
use Rattle.py_value.specs.declared.value.Value.TheVariants as value
use Rattle.py_value.specs.Keys.{value_of}
use Rattle.py_heap.specs.declared.heap.Object.{Object}
use Rattle.py_heap.specs.declared.heap.Object.TheVariants as object
use Rattle.py_heap.specs.declared.state.State.{State}
use Rattle.part_bytes.specs.Parts.{order, number_in, numbered, numbered_pair, numbered_object, objects_of, held_of}
use Rattle.part_bytes.specs.Tables.{has_text, number_of, with_text, with_texts}
use Rattle.part_bytes.specs.Uses.{value_texts, held_texts, pair_texts, object_texts, part_texts}
use Rattle.part_bytes.specs.Gathering.{held_texts_at, object_texts_at}

-- ---- the first that passes

module _ {A : Type 0} (p : A → Bool) where
  -- there is one, if its position is within
  pub passes_within : (xs : List A) → position_or_len p xs < length xs → list_any p xs ≡ true
  passes_within [] l = absurd (omega (arith, l))
  passes_within (x ∷ xs) l = elim (cases_Bool (p x)) [
    | inl e ↦ rw e refl
    | inr f ↦ rw f (passes_within xs (let k : 1 + position_or_len p xs < length (x ∷ xs) = rw f at l in omega (arith, k)))
  ]

  -- there is none, if it isn't
  pub none_within : (xs : List A) → length xs ≤ position_or_len p xs → list_any p xs ≡ false
  none_within [] l = refl
  none_within (x ∷ xs) l = elim (cases_Bool (p x)) [
    | inl e ↦ absurd (let k : length (x ∷ xs) ≤ 0 = rw e at l in omega (arith, k))
    | inr f ↦ rw f (none_within xs (let k : length (x ∷ xs) ≤ 1 + position_or_len p xs = rw f at l in omega (arith, k)))
  ]

module _ {A B : Type 0} (f : A → B) (p : B → Bool) where
  pub position-map : (xs : List A) → position_or_len p (map f xs) ≡ position_or_len (λ x. p (f x)) xs
  position-map [] = refl
  position-map (x ∷ xs) = ap (λ (n : ℕ). cond (not (p (f x))) (1 + n) 0) (position-map xs)

  pub any-map : (xs : List A) → list_any p (map f xs) ≡ list_any (λ x. p (f x)) xs
  any-map [] = refl
  any-map (x ∷ xs) = ap (λ (b : Bool). p (f x) || b) (any-map xs)

-- the position, and how many there are if there is none
module _ {A : Type 0} (p : A → Bool) (xs : List A) where
  position_is : (at : ℕ) → position p xs ≡ Some at → position_or_len p xs ≡ at
  position_is at e = elim (cases_Bool (nat_lt (position_or_len p xs) (length xs))) [
    | inl t ↦ let k : Some (position_or_len p xs) ≡ Some at = rw t at e in cc
    | inr f ↦ let k : None ≡ Some at = rw f at e in cc
  ]

  no_position : position p xs ≡ None → position_or_len p xs ≡ length xs
  no_position e = elim (cases_Bool (nat_lt (position_or_len p xs) (length xs))) [
    | inl t ↦ let k : Some (position_or_len p xs) ≡ None = rw t at e in cc
    | inr f ↦ omega (arith, prefix_len-le-length (λ (x : A). not (p x)) xs, ltb-false (position_or_len p xs) (length xs) f)
  ]

-- ---- keys that are texts

module _ {A : Type 0} (f : A → List ℕ) (keys : List A) (text : List ℕ) where
  pub placed : (at : ℕ) → position (λ x. bytes_eq text (f x)) keys ≡ Some at → number_of (map f keys) text ≡ at
  placed at e = position-map f (bytes_eq text) keys ∙ position_is (λ x. bytes_eq text (f x)) keys at e

  pub unplaced : position (λ x. bytes_eq text (f x)) keys ≡ None → number_of (map f keys) text ≡ length (map f keys)
  unplaced e = position-map f (bytes_eq text) keys ∙ (no_position (λ x. bytes_eq text (f x)) keys e ∙ sym (length-map keys f))

-- no number is past all
pub number_within : (table : List (List ℕ)) (text : List ℕ) → number_of table text ≤ length table
number_within table text = prefix_len-le-length (λ x. not (bytes_eq text x)) table

-- ---- one text more

-- keys that are texts, with one more
pub mapped_with : {A : Type 0} (f : A → List ℕ) (keys : List A) (key : A)
    → map f (if list_any (λ x. bytes_eq (f key) (f x)) keys then keys else keys ++ key ∷ []) ≡ with_text (map f keys) (f key)
mapped_with f keys key = elim (cases_Bool (list_any (λ x. bytes_eq (f key) (f x)) keys)) [
  | inl e ↦ let there : has_text (map f keys) (f key) ≡ true = any-map f (bytes_eq (f key)) keys ∙ e in rw (e, there) refl
  | inr n ↦ let none : has_text (map f keys) (f key) ≡ false = any-map f (bytes_eq (f key)) keys ∙ n in rw (n, none) (map-append f keys (key ∷ []))
]

-- a text that is there changes nothing
pub known_stays : (table : List (List ℕ)) (text : List ℕ) → number_of table text < length table → with_text table text ≡ table
known_stays table text l = rw (passes_within (bytes_eq text) table l) refl

-- ---- more texts

pub with_more : (table first rest : List (List ℕ)) → with_texts table (first ++ rest) ≡ with_texts (with_texts table first) rest
with_more table first rest = fold-append with_text table first rest

-- the texts of one item more
pub uses_more : {A : Type 0} (uses : A → List (List ℕ)) (old now next : List (List ℕ)) (xs : List A) (i : ℕ) (x : A) → i < length xs → x ≡ get_or xs i x
    → now ≡ with_texts old (flat_map uses (take i xs)) → next ≡ with_texts now (uses x) → next ≡ with_texts old (flat_map uses (take (i + 1) xs))
uses_more {A = A} uses old now next xs i x l is e k =
    let front : take (i + 1) xs ≡ take i xs ++ x ∷ [] = take_more xs i x l ∙ ap (λ (y : A). take i xs ++ y ∷ []) (sym is) in
    let last : flat_map uses (take (i + 1) xs) ≡ flat_map uses (take i xs) ++ uses x =
    ap (flat_map uses) front ∙ (flat_map-append uses (take i xs) (x ∷ []) ∙ ap (λ (ts : List (List ℕ)). flat_map uses (take i xs) ++ ts) (append-nil (uses x))) in
    k ∙ (ap (λ (t : List (List ℕ)). with_texts t (uses x)) e
    ∙ (sym (with_more old (flat_map uses (take i xs)) (uses x)) ∙ ap (with_texts old) (sym last)))

-- the texts of all
pub uses_all : {A : Type 0} (uses : A → List (List ℕ)) (old now : List (List ℕ)) (xs : List A) (i : ℕ) → length xs ≤ i → now ≡ with_texts old (flat_map uses (take i xs)) → now ≡ with_texts old (flat_map uses xs)
uses_all {A = A} uses old now xs i l e = e ∙ ap (λ (ys : List A). with_texts old (flat_map uses ys)) (take_all i xs l)

-- ---- texts have no addresses

flat_map-map : {A B C : Type 0} (f : B → List C) (g : A → B) (h : A → List C) → ((x : A) → f (g x) ≡ h x) → (xs : List A) → flat_map f (map g xs) ≡ flat_map h xs
flat_map-map f g h same [] = refl
flat_map-map {C = C} f g h same (x ∷ xs) = ap (λ (zs : List C). zs ++ flat_map f (map g xs)) (same x) ∙ ap (λ (zs : List C). h x ++ zs) (flat_map-map f g h same xs)

module _ (number : ℕ → ℕ) where
  pub numbered_texts : (v : Value) → value_texts (numbered number v) ≡ value_texts v
  numbered_texts (value.Ref at) = refl
  numbered_texts value.Nothing = refl
  numbered_texts (value.Bool truth) = refl
  numbered_texts (value.Number n) = refl
  numbered_texts (value.Text text) = refl
  numbered_texts (value.Builtin builtin) = refl

  numbered_pair_texts : (pair : Key × Value) → pair_texts (numbered_pair number pair) ≡ pair_texts pair
  numbered_pair_texts pair = ap (λ (ts : List (List ℕ)). value_texts (value_of pair.0) ++ ts) (numbered_texts pair.1)

  pub numbered_object_texts : (o : Object) → object_texts (numbered_object number o) ≡ object_texts o
  numbered_object_texts (object.List items) = flat_map-map value_texts (numbered number) value_texts numbered_texts items
  numbered_object_texts (object.Tuple items) = flat_map-map value_texts (numbered number) value_texts numbered_texts items
  numbered_object_texts (object.Dict pairs) = flat_map-map pair_texts (numbered_pair number) pair_texts numbered_pair_texts pairs
  numbered_object_texts (object.Function def) = refl
  numbered_object_texts (object.Handle name uses) = refl

  held_numbered : (o : Option Value) → held_texts (option_map (numbered number) o) ≡ held_texts o
  held_numbered None = refl
  held_numbered (Some v) = numbered_texts v

  module _ (s : State) where
    held_by : (names : List (List ℕ)) → flat_map held_texts (map (held_of s number) names) ≡ flat_map (held_texts_at s) names
    held_by names = flat_map-map held_texts (held_of s number) (held_texts_at s) (λ name. held_numbered (finite.get s.globals name)) names

    objects_here : (at : ℕ) → flat_map object_texts (objects_of s number at) ≡ object_texts_at s at
    objects_here at = flat_map-map object_texts (numbered_object number) object_texts numbered_object_texts (option_to_list (slice_get s.heap at))

    objects_by : (found : List ℕ) → flat_map object_texts (flat_map (objects_of s number) found) ≡ flat_map (object_texts_at s) found
    objects_by [] = refl
    objects_by (at ∷ found) =
        flat_map-append object_texts (objects_of s number at) (flat_map (objects_of s number) found)
        ∙ (ap (λ (ts : List (List ℕ)). ts ++ flat_map object_texts (flat_map (objects_of s number) found)) (objects_here at)
        ∙ ap (λ (ts : List (List ℕ)). object_texts_at s at ++ ts) (objects_by found))

module _ (s : State) (names : List (List ℕ)) where
  pub by_addresses : part_texts s names ≡ flat_map (held_texts_at s) names ++ flat_map (object_texts_at s) (order s names)
  by_addresses =
      let number : ℕ → ℕ = number_in (order s names) in
      ap (λ (ts : List (List ℕ)). ts ++ flat_map object_texts (flat_map (objects_of s number) (order s names))) (held_by number s names)
      ∙ ap (λ (ts : List (List ℕ)). flat_map (held_texts_at s) names ++ ts) (objects_by number s (order s names))

  -- what the names have, and then what the objects have that were found
  pub whole_part : (old held all : List (List ℕ)) (found : List ℕ) → found ≡ order s names → held ≡ with_texts old (flat_map (held_texts_at s) names) → all ≡ with_texts held (flat_map (object_texts_at s) found)
      → all ≡ with_texts old (part_texts s names)
  whole_part old held all found is h a =
      a ∙ (ap (λ (ns : List ℕ). with_texts held (flat_map (object_texts_at s) ns)) is
      ∙ (ap (λ (t : List (List ℕ)). with_texts t (flat_map (object_texts_at s) (order s names))) h
      ∙ (sym (with_more old (flat_map (held_texts_at s) names) (flat_map (object_texts_at s) (order s names))) ∙ ap (with_texts old) (sym by_addresses))))

-- the texts of the object at an address
pub texts_here : (s : State) (at : ℕ) (o : Object) → slice_get s.heap at ≡ Some o → object_texts o ≡ object_texts_at s at
texts_here s at o e = sym (ap (λ (found : Option Object). flat_map object_texts (option_to_list found)) e ∙ append-nil (object_texts o))
