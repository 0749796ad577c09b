-- Bytes that are written one piece after the other.
use Rattle.std.proofs.Common.{◌≡◌, ℕ, zero, suc, ◌+◌, ◌<◌, List, [], ◌∷◌, ◌++◌, length, get_or, take, map, Some, Result, Ok, Err, OnOk, refl, sym, ap, ◌∙◌, subst, inl, inr, arith}
use Rattle.std.specs.Prelude.{slice_get}
use Rattle.std.specs.List.{flat_map, AllWithin}
use Rattle.std.proofs.lemmas.Bool.{cases_eq}
use Rattle.std.proofs.lemmas.List.{append_assoc, length-append, map-append, take_more, flat_map_more}
use Rattle.std.proofs.lemmas.List.Elements.{All-head, All-tail}
use Rattle.std.proofs.lemmas.Option.{slice_get_within, get_or_from_slice_get}
use Rattle.py_value.specs.declared.key.Key.{Key}
use Rattle.py_value.specs.declared.value.Value.{Value}
use Rattle.py_value.specs.Keys.{value_of}
use Rattle.py_heap.specs.declared.heap.Object.{Object}
use Rattle.py_heap.specs.declared.state.State.{State}
use Rattle.py_heap.specs.Dicts.{Pairs}
use Rattle.py_heap.specs.References.{AreLive}
use Rattle.part_bytes.specs.Parts.{order, number_in, numbered, numbered_pair, numbered_object, objects_of, held_of}
use Rattle.part_bytes.specs.Parts.{part_of}
use Rattle.part_bytes.specs.Texts.{four, name_bytes, spelled_value, spelled_held, spelled_pair, spelled_object, spelled_part}
use Rattle.part_bytes.proofs.ByAddress.{there}

-- what holds always holds if all went well
pub on_ok : {A B : Type 0} {P : Type 0} (r : Result A B) → P → OnOk r P
on_ok (Ok x) p = p
on_ok (Err e) p = tt

-- whatever the default for a missing item is, an item that is there is the same
pub at_any : {A : Type 0} (xs : List A) (i : ℕ) (d e : A) → i < length xs → get_or xs i d ≡ get_or xs i e
at_any [] i d e l = absurd (omega (arith, l))
at_any (x ∷ xs) zero d e l = refl
at_any (x ∷ xs) (suc i) d e l = at_any xs i d e (omega (arith, l))

-- what holds of the first items and of the next holds of one more
pub all_more : {A : Type 0} (P : A → Type 0) (xs : List A) (i : ℕ) (x : A) → i < length xs → x ≡ get_or xs i x → AllWithin P xs 0 i → P x → AllWithin P xs 0 (i + 1)
all_more P xs i x l is front here k d low high = elim (cases_eq k i) [
  | inl e ↦ subst P (is ∙ (at_any xs i x d l ∙ ap (λ (j : ℕ). get_or xs j d) (sym e))) here
  | inr n ↦ front k d low (omega (arith, high, n))
]

pub piece_more : {B C : Type 0} (f : B → List C) (old out more : List C) (front : List B) (y : B) → out ≡ old ++ flat_map f front → more ≡ out ++ f y → more ≡ old ++ flat_map f (front ++ y ∷ [])
piece_more {C = C} f old out more front y e k = k ∙ (ap (λ (zs : List C). zs ++ f y) e ∙ flat_map_more f old front y)

mapped_front : {A B : Type 0} (g : A → B) (xs : List A) (i : ℕ) (x : A) → i < length xs → x ≡ get_or xs i x → map g (take i xs) ++ g x ∷ [] ≡ map g (take (i + 1) xs)
mapped_front {A = A} g xs i x l is = sym (ap (map g) (take_more xs i x l) ∙ (map-append g (take i xs) (get_or xs i x ∷ []) ∙ ap (λ (y : A). map g (take i xs) ++ g y ∷ []) (sym is)))

pub mapped_more : {A B C : Type 0} (f : B → List C) (g : A → B) (old out more : List C) (xs : List A) (i : ℕ) (x : A) → i < length xs → x ≡ get_or xs i x
    → out ≡ old ++ flat_map f (map g (take i xs)) → more ≡ out ++ f (g x) → more ≡ old ++ flat_map f (map g (take (i + 1) xs))
mapped_more {B = B} f g old out more xs i x l is e k = piece_more f old out more (map g (take i xs)) (g x) e k ∙ ap (λ (ys : List B). old ++ flat_map f ys) (mapped_front g xs i x l is)

pub plain_more : {A C : Type 0} (f : A → List C) (old out more : List C) (xs : List A) (i : ℕ) (x : A) → i < length xs → x ≡ get_or xs i x
    → out ≡ old ++ flat_map f (take i xs) → more ≡ out ++ f x → more ≡ old ++ flat_map f (take (i + 1) xs)
plain_more {A = A} f old out more xs i x l is e k =
    piece_more f old out more (take i xs) x e k
    ∙ ap (λ (ys : List A). old ++ flat_map f ys) (sym (take_more xs i x l ∙ ap (λ (y : A). take i xs ++ y ∷ []) (sym is)))

-- a key and then its value are a pair
pub pair_more : (spell : List ℕ → List ℕ) (number : ℕ → ℕ) (old out key_out more : List ℕ) (pairs : Pairs) (i : ℕ) (key : Key) (value : Value) → slice_get pairs i ≡ Some (key, value)
    → out ≡ old ++ flat_map (spelled_pair spell) (map (numbered_pair number) (take i pairs)) → key_out ≡ out ++ spelled_value spell (value_of key) → more ≡ key_out ++ spelled_value spell (numbered number value)
    → more ≡ old ++ flat_map (spelled_pair spell) (map (numbered_pair number) (take (i + 1) pairs))
pair_more spell number old out key_out more pairs i key value at e k v =
    let pair : Key × Value = (key, value) in
    let last : List ℕ = spelled_value spell (numbered number value) in
    let both : more ≡ out ++ spelled_pair spell (numbered_pair number pair) = v ∙ (ap (λ (zs : List ℕ). zs ++ last) k ∙ append_assoc out (spelled_value spell (value_of key)) last) in
    mapped_more (spelled_pair spell) (numbered_pair number) old out more pairs i pair (slice_get_within pairs i pair at) (sym (get_or_from_slice_get pairs i pair pair at)) e both

module _ (s : State) (number : ℕ → ℕ) where
  one_object : (at : ℕ) (o : Object) → slice_get s.heap at ≡ Some o → objects_of s number at ≡ numbered_object number o ∷ []
  one_object at o e = rw e refl

  -- each address of an object has one
  pub as_many : (found : List ℕ) → AreLive s.heap found → length (flat_map (objects_of s number) found) ≡ length found
  as_many [] live = refl
  as_many (at ∷ found) live =
      let P : ℕ → Type 0 = λ at. at < length s.heap in
      let o = there s.heap at (All-head P at found live) in
      let rest = as_many found (All-tail P at found live) in
      let size = length-append (objects_of s number at) (flat_map (objects_of s number) found) in
      let one : length (objects_of s number at) ≡ 1 = ap (λ (os : List Object). length os) (one_object at o.0 o.1) in
      omega (arith, rest, size, one)

module _ (spell : List ℕ → List ℕ) (s : State) (names : List (List ℕ)) where
  -- the text of the part, if its objects are in this order
  abbrev text_by : List ℕ → List ℕ
  text_by found = spelled_part spell (record {
    names = names;
    values = map (held_of s (number_in found)) names;
    objects = flat_map (objects_of s (number_in found)) found;
  })

  pub whole_text : (found : List ℕ) → found ≡ order s names → AreLive s.heap found → (n m : ℕ) → n ≡ length names → m ≡ length found → (z a b c d e : List ℕ) → z ≡ []
      → a ≡ z ++ four n → b ≡ a ++ flat_map name_bytes names → c ≡ b ++ flat_map (spelled_held spell) (map (held_of s (number_in found)) names)
      → d ≡ c ++ four m → e ≡ d ++ flat_map (spelled_object spell) (flat_map (objects_of s (number_in found)) found) → e ≡ spelled_part spell (part_of s names)
  whole_text found is live n m size many z a b c d e zz aa bb ccc dd ee =
      let p : List ℕ = four (length names) in
      let q : List ℕ = flat_map name_bytes names in
      let r : List ℕ = flat_map (spelled_held spell) (map (held_of s (number_in found)) names) in
      let objects : List Object = flat_map (objects_of s (number_in found)) found in
      let t : List ℕ = four (length objects) in
      let u : List ℕ = flat_map (spelled_object spell) objects in
      let counted : four m ≡ t = ap four (many ∙ sym (as_many s (number_in found) found live)) in
      let first : a ≡ p = aa ∙ (ap (λ (zs : List ℕ). zs ++ four n) zz ∙ ap four size) in
      let second : b ≡ p ++ q = bb ∙ ap (λ (zs : List ℕ). zs ++ q) first in
      let third : c ≡ (p ++ q) ++ r = ccc ∙ ap (λ (zs : List ℕ). zs ++ r) second in
      let fourth : d ≡ ((p ++ q) ++ r) ++ t = dd ∙ (ap (λ (zs : List ℕ). zs ++ four m) third ∙ ap (λ (zs : List ℕ). ((p ++ q) ++ r) ++ zs) counted) in
      let all : e ≡ text_by found = ee ∙ ap (λ (zs : List ℕ). zs ++ u) fourth in
      all ∙ ap text_by is
