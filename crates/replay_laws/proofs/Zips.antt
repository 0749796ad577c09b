-- Lists that match index by index, by pairs of addresses: what is met first, numbers, and what two functions make of them.
use Rattle.std.proofs.Common.{◌≡◌, ℕ, suc, ◌+◌, ◌<◌, ◌==◌, not, List, [], ◌∷◌, ◌++◌, length, map, refl, sym, ap, ◌∙◌, subst, inl, inr, arith}
use Rattle.std.specs.Prelude.{Contains, filter}
use Rattle.std.specs.List.{flat_map, AllZip}
use Rattle.std.proofs.lemmas.Bool.{cases_eq, cases_Bool, eq-eqb, ne_eqb}
use Rattle.py_heap.specs.Reaching.{firsts}
use Rattle.py_laws.specs.Same.{IsOneToOne}
use Rattle.py_laws.proofs.Zipped.{zip_append}
use Rattle.part_bytes.specs.Parts.{number_in}

-- ---- what two functions make

module _ {A : Type 0} (R : A → A → Type 0) where
  module _ {B : Type 0} (f g : A → B) (k : (x y : A) → R x y → f x ≡ g y) where
    pub map_same : (xs ys : List A) → AllZip R xs ys → map f xs ≡ map g ys
    map_same [] [] h = refl
    map_same (x ∷ xs) (y ∷ ys) h = ap (λ (b : B). b ∷ map f xs) (k x y h.0) ∙ ap (λ (bs : List B). g y ∷ bs) (map_same xs ys h.1)
    map_same [] (y ∷ ys) h = absurd h
    map_same (x ∷ xs) [] h = absurd h

  module _ {B : Type 0} (f g : A → List B) (k : (x y : A) → R x y → f x ≡ g y) where
    pub flat_same : (xs ys : List A) → AllZip R xs ys → flat_map f xs ≡ flat_map g ys
    flat_same [] [] h = refl
    flat_same (x ∷ xs) (y ∷ ys) h = ap (λ (bs : List B). bs ++ flat_map f xs) (k x y h.0) ∙ ap (λ (bs : List B). g y ++ bs) (flat_same xs ys h.1)
    flat_same [] (y ∷ ys) h = absurd h
    flat_same (x ∷ xs) [] h = absurd h

later : {A : Type 0} (x y : A) (xs : List A) → Contains xs y → Contains (x ∷ xs) y
later x y xs c = (suc c.0, let l : c.0 < length xs = c.1 in omega arith, c.2)

pub map_alike : {A B : Type 0} (f g : A → B) (xs : List A) → ((x : A) → Contains xs x → f x ≡ g x) → map f xs ≡ map g xs
map_alike f g [] k = refl
map_alike {B = B} f g (x ∷ xs) k =
    ap (λ (b : B). b ∷ map f xs) (k x (0, omega arith, refl)) ∙ ap (λ (bs : List B). g x ∷ bs) (map_alike f g xs (λ y c. k y (later x y xs c)))

-- ---- addresses

module _ (ps : ℕ → ℕ → Type 0) where
  pub flat_zip : {A : Type 0} (R : A → A → Type 0) (f g : A → List ℕ) → ((x y : A) → R x y → AllZip ps (f x) (g y))
      → (xs ys : List A) → AllZip R xs ys → AllZip ps (flat_map f xs) (flat_map g ys)
  flat_zip R f g k [] [] h = tt
  flat_zip R f g k (x ∷ xs) (y ∷ ys) h = zip_append ps (f x) (g y) (flat_map f xs) (flat_map g ys) (k x y h.0) (flat_zip R f g k xs ys h.1)
  flat_zip R f g k [] (y ∷ ys) h = absurd h
  flat_zip R f g k (x ∷ xs) [] h = absurd h

  pub flat_alike : {A : Type 0} (f g : A → List ℕ) (xs : List A) → ((x : A) → Contains xs x → AllZip ps (f x) (g x)) → AllZip ps (flat_map f xs) (flat_map g xs)
  flat_alike f g [] k = tt
  flat_alike f g (x ∷ xs) k = zip_append ps (f x) (g x) (flat_map f xs) (flat_map g xs) (k x (0, omega arith, refl)) (flat_alike f g xs (λ y c. k y (later x y xs c)))

  module _ (one : IsOneToOne ps) where
    same_test : (x y a b : ℕ) → ps x y → ps a b → (x == a) ≡ (y == b)
    same_test x y a b p q = elim (cases_eq x a) [
      | inl e ↦ eq-eqb x a e ∙ sym (eq-eqb y b (one.left x y b p (let P : ℕ → Type 0 = λ z. ps z b in subst P (sym e) q)))
      | inr d ↦ ne_eqb x a d ∙ sym (ne_eqb y b (λ e. d (one.right x a b (let P : ℕ → Type 0 = λ z. ps x z in subst P e p) q)))
    ]

    pub number_zip : (xs ys : List ℕ) → AllZip ps xs ys → (a b : ℕ) → ps a b → number_in xs a ≡ number_in ys b
    number_zip [] [] h a b p = refl
    number_zip (x ∷ xs) (y ∷ ys) h a b p = rw (same_test x y a b h.0 p, number_zip xs ys h.1 a b p) refl
    number_zip [] (y ∷ ys) h a b p = absurd h
    number_zip (x ∷ xs) [] h a b p = absurd h

    filter_zip : (xs ys : List ℕ) → AllZip ps xs ys → (a b : ℕ) → ps a b → AllZip ps (filter (λ m. not (m == a)) xs) (filter (λ m. not (m == b)) ys)
    filter_zip [] [] h a b p = tt
    filter_zip (x ∷ xs) (y ∷ ys) h a b p =
        let e = same_test x y a b h.0 p in
        elim (cases_Bool (y == b)) [
          | inl t ↦ rw (e, t) (filter_zip xs ys h.1 a b p)
          | inr f ↦ rw (e, f) (h.0, filter_zip xs ys h.1 a b p)
        ]
    filter_zip [] (y ∷ ys) h a b p = absurd h
    filter_zip (x ∷ xs) [] h a b p = absurd h

    pub firsts_zip : (xs ys : List ℕ) → AllZip ps xs ys → AllZip ps (firsts xs) (firsts ys)
    firsts_zip [] [] h = tt
    firsts_zip (x ∷ xs) (y ∷ ys) h = (h.0, filter_zip (firsts xs) (firsts ys) (firsts_zip xs ys h.1) x y h.0)
    firsts_zip [] (y ∷ ys) h = absurd h
    firsts_zip (x ∷ xs) [] h = absurd h
