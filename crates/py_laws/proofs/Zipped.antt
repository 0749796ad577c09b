-- Lists and dicts that match item by item, after the same change.
use Rattle.std.proofs.Common.{◌≡◌, ℕ, zero, suc, true, false, List, [], ◌∷◌, ◌++◌, length, take, drop, set, refl, ap, inl, inr, subst}
use Rattle.std.specs.Prelude.{◌-◌, insert, remove, slice_get, slice_range}
use Rattle.std.specs.List.{AllZip, repeat}
use Rattle.std.proofs.lemmas.Bool.{cases_Bool}
use Rattle.py_value.specs.declared.key.Key.{Key}
use Rattle.py_value.specs.declared.value.Value.{Value}
use Rattle.py_value.specs.Keys.{same_key}
use Rattle.py_heap.specs.Dicts.{Pairs, value_under, with_pair, without_key}
use Rattle.py_laws.specs.Same.{ValuesMatch, PairsMatch, BothOrNone}

module _ {A : Type 0} (R : A → A → Type 0) where
  pub zip_length : (xs ys : List A) → AllZip R xs ys → length xs ≡ length ys
  zip_length [] [] h = refl
  zip_length (x ∷ xs) (y ∷ ys) h = ap suc (zip_length xs ys h.1)
  zip_length [] (y ∷ ys) h = absurd h
  zip_length (x ∷ xs) [] h = absurd h

  pub zip_append : (xs ys us vs : List A) → AllZip R xs ys → AllZip R us vs → AllZip R (xs ++ us) (ys ++ vs)
  zip_append [] [] us vs h k = k
  zip_append (x ∷ xs) (y ∷ ys) us vs h k = (h.0, zip_append xs ys us vs h.1 k)
  zip_append [] (y ∷ ys) us vs h k = absurd h
  zip_append (x ∷ xs) [] us vs h k = absurd h

  pub zip_take : (n : ℕ) (xs ys : List A) → AllZip R xs ys → AllZip R (take n xs) (take n ys)
  zip_take zero xs ys h = tt
  zip_take (suc n) [] [] h = tt
  zip_take (suc n) (x ∷ xs) (y ∷ ys) h = (h.0, zip_take n xs ys h.1)
  zip_take (suc n) [] (y ∷ ys) h = absurd h
  zip_take (suc n) (x ∷ xs) [] h = absurd h

  pub zip_drop : (n : ℕ) (xs ys : List A) → AllZip R xs ys → AllZip R (drop n xs) (drop n ys)
  zip_drop zero xs ys h = h
  zip_drop (suc n) [] [] h = tt
  zip_drop (suc n) (x ∷ xs) (y ∷ ys) h = zip_drop n xs ys h.1
  zip_drop (suc n) [] (y ∷ ys) h = absurd h
  zip_drop (suc n) (x ∷ xs) [] h = absurd h

  pub zip_set : (n : ℕ) (xs ys : List A) (a b : A) → R a b → AllZip R xs ys → AllZip R (set xs n a) (set ys n b)
  zip_set n [] [] a b k h = tt
  zip_set zero (x ∷ xs) (y ∷ ys) a b k h = (k, h.1)
  zip_set (suc n) (x ∷ xs) (y ∷ ys) a b k h = (h.0, zip_set n xs ys a b k h.1)
  zip_set n [] (y ∷ ys) a b k h = absurd h
  zip_set n (x ∷ xs) [] a b k h = absurd h

  pub zip_insert : (n : ℕ) (xs ys : List A) (a b : A) → R a b → AllZip R xs ys → AllZip R (insert xs n a) (insert ys n b)
  zip_insert n xs ys a b k h = zip_append (take n xs) (take n ys) (a ∷ drop n xs) (b ∷ drop n ys) (zip_take n xs ys h) (k, zip_drop n xs ys h)

  pub zip_remove : (n : ℕ) (xs ys : List A) → AllZip R xs ys → AllZip R (remove xs n) (remove ys n)
  zip_remove n xs ys h = zip_append (take n xs) (take n ys) (drop (suc n) xs) (drop (suc n) ys) (zip_take n xs ys h) (zip_drop (suc n) xs ys h)

  pub zip_range : (n m : ℕ) (xs ys : List A) → AllZip R xs ys → AllZip R (slice_range xs n m) (slice_range ys n m)
  zip_range n m xs ys h = zip_take (m - n) (drop n xs) (drop n ys) (zip_drop n xs ys h)

  pub zip_repeat : (n : ℕ) (xs ys : List A) → AllZip R xs ys → AllZip R (repeat n xs) (repeat n ys)
  zip_repeat zero xs ys h = tt
  zip_repeat (suc n) xs ys h = zip_append xs ys (repeat n xs) (repeat n ys) h (zip_repeat n xs ys h)

  pub zip_get : (n : ℕ) (xs ys : List A) → AllZip R xs ys → BothOrNone R (slice_get xs n) (slice_get ys n)
  zip_get n [] [] h = tt
  zip_get zero (x ∷ xs) (y ∷ ys) h = h.0
  zip_get (suc n) (x ∷ xs) (y ∷ ys) h = zip_get n xs ys h.1
  zip_get n [] (y ∷ ys) h = absurd h
  zip_get n (x ∷ xs) [] h = absurd h

-- lists that match, by cases
pub data Zips {A : Type 0} (R : A → A → Type 0) : List A → List A → Type 0 where
  no_more : Zips R [] []
  one_more : (x y : A) (xs ys : List A) → R x y → Zips R xs ys → Zips R (x ∷ xs) (y ∷ ys)

module _ {A : Type 0} (R : A → A → Type 0) where
  pub zips : (xs ys : List A) → AllZip R xs ys → Zips R xs ys
  zips [] [] h = no_more
  zips (x ∷ xs) (y ∷ ys) h = one_more x y xs ys h.0 (zips xs ys h.1)
  zips [] (y ∷ ys) h = absurd h
  zips (x ∷ xs) [] h = absurd h

-- ---- dicts

module _ (ps : ℕ → ℕ → Type 0) where
  abbrev Match : Pairs → Pairs → Type 0
  Match = AllZip (PairsMatch ps)

  pub put_match : (xs ys : Pairs) (key : Key) (v w : Value) → ValuesMatch ps v w → Match xs ys → Match (with_pair xs key v) (with_pair ys key w)
  put_match [] [] key v w k h = ((refl, k), tt)
  put_match (p ∷ xs) (q ∷ ys) key v w k h = elim (cases_Bool (same_key key p.0)) [
    | inl e ↦ rw (e, subst (λ (x : Key). same_key key x ≡ true) h.0.0 e) ((h.0.0, k), h.1)
    | inr e ↦ rw (e, subst (λ (x : Key). same_key key x ≡ false) h.0.0 e) (h.0, put_match xs ys key v w k h.1)
  ]
  put_match [] (q ∷ ys) key v w k h = absurd h
  put_match (p ∷ xs) [] key v w k h = absurd h

  pub drop_match : (xs ys : Pairs) (key : Key) → Match xs ys → Match (without_key xs key) (without_key ys key)
  drop_match [] [] key h = tt
  drop_match (p ∷ xs) (q ∷ ys) key h = elim (cases_Bool (same_key key p.0)) [
    | inl e ↦ rw (e, subst (λ (x : Key). same_key key x ≡ true) h.0.0 e) h.1
    | inr e ↦ rw (e, subst (λ (x : Key). same_key key x ≡ false) h.0.0 e) (h.0, drop_match xs ys key h.1)
  ]
  drop_match [] (q ∷ ys) key h = absurd h
  drop_match (p ∷ xs) [] key h = absurd h

  pub under_match : (xs ys : Pairs) (key : Key) → Match xs ys → BothOrNone (ValuesMatch ps) (value_under xs key) (value_under ys key)
  under_match [] [] key h = tt
  under_match (p ∷ xs) (q ∷ ys) key h = elim (cases_Bool (same_key key p.0)) [
    | inl e ↦ rw (e, subst (λ (x : Key). same_key key x ≡ true) h.0.0 e) h.0.1
    | inr e ↦ rw (e, subst (λ (x : Key). same_key key x ≡ false) h.0.0 e) (under_match xs ys key h.1)
  ]
  under_match [] (q ∷ ys) key h = absurd h
  under_match (p ∷ xs) [] key h = absurd h
