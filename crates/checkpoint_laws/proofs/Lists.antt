-- The bytes of items that are numbered, as one more comes after them.
use Rattle.std.proofs.Common.{◌≡◌, ℕ, ◌+◌, ◌<◌, ◌≤◌, ◌==◌, ◌||◌, Bool, true, false, List, [], ◌∷◌, ◌++◌, length, refl, sym, ap, ◌∙◌, inl, inr, arith}
use Rattle.std.specs.List.{AllByRecursion}
use Rattle.std.proofs.lemmas.Bool.{cases_Bool, eq-eqb, ne_eqb}
use Rattle.std.proofs.lemmas.List.{append-nil, append_assoc}
use Rattle.part_bytes.specs.declared.part.PartValue.{PartValue}
use Rattle.part_bytes.specs.Texts.{spelled_part}
use Rattle.checkpoint_bytes.specs.Texts.{lists, each_from}
use Rattle.checkpoint_reader.specs.Fields.{marked}
use Rattle.checkpoint_laws.specs.Texts.{part_bytes}

-- ---- items that are numbered

module _ {A : Type 0} (f g : ℕ → A → List ℕ) where
  -- what was written of the items so far is written of them still
  bytes_stay : (xs : List A) (n : ℕ) → ((k : ℕ) (x : A) → k < n + length xs → f k x ≡ g k x) → each_from f n xs ≡ each_from g n xs
  bytes_stay [] n h = refl
  bytes_stay (x ∷ xs) n h =
      ap (λ (ys : List ℕ). ys ++ each_from f (n + 1) xs) (h n x (omega arith))
      ∙ ap (λ (ys : List ℕ). g n x ++ ys) (bytes_stay xs (n + 1) (λ k y l. h k y (omega (arith, l))))

  bytes_put : (xs : List A) (x : A) (n : ℕ) → each_from f n (xs ++ x ∷ []) ≡ each_from f n xs ++ f (n + length xs) x
  bytes_put [] x n = append-nil (f n x) ∙ ap (λ (k : ℕ). f k x) (omega arith)
  bytes_put (y ∷ xs) x n =
      let place : n + 1 + length xs ≡ n + length (y ∷ xs) = omega arith in
      ap (λ (ys : List ℕ). f n y ++ ys) (bytes_put xs x (n + 1) ∙ ap (λ (k : ℕ). each_from f (n + 1) xs ++ f k x) place)
      ∙ sym (append_assoc (f n y) (each_from f (n + 1) xs) (f (n + length (y ∷ xs)) x))

  pub bytes_more : (xs : List A) (x : A) (n : ℕ) → ((k : ℕ) (y : A) → k < n + length xs → f k y ≡ g k y) → each_from f n (xs ++ x ∷ []) ≡ each_from g n xs ++ f (n + length xs) x
  bytes_more xs x n h = bytes_put xs x n ∙ ap (λ (ys : List ℕ). ys ++ f (n + length xs) x) (bytes_stay xs n h)

-- ---- numbers that are listed

-- none of the numbers is above n
abbrev pub AreUpTo : ℕ → List ℕ → Type 0
AreUpTo n ns = AllByRecursion (λ m. m ≤ n) ns

stay_up_to : (n : ℕ) (ns : List ℕ) → AreUpTo n ns → AreUpTo (n + 1) ns
stay_up_to n [] h = tt
stay_up_to n (m ∷ ns) h = let l = h.0 in (omega (arith, l), stay_up_to n ns h.1)

put_up_to : (n : ℕ) (ns : List ℕ) → AreUpTo n ns → AreUpTo (n + 1) (ns ++ (n + 1) ∷ [])
put_up_to n [] h = (omega arith, tt)
put_up_to n (m ∷ ns) h = let l = h.0 in (omega (arith, l), put_up_to n ns h.1)

pub marked_up_to : (n : ℕ) (ns : List ℕ) (b : Bool) → AreUpTo n ns → AreUpTo (n + 1) (marked ns (n + 1) b)
marked_up_to n ns true h = put_up_to n ns h
marked_up_to n ns false h = stay_up_to n ns h

not_listed : (n k : ℕ) (ns : List ℕ) → AreUpTo n ns → n < k → lists ns k ≡ false
not_listed n k [] h l = refl
not_listed n k (m ∷ ns) h l = let low = h.0 in rw (ne_eqb m k (λ e. omega (arith, l, low, e))) (not_listed n k ns h.1 l)

put_listed : (m : ℕ) (ns : List ℕ) → lists (ns ++ m ∷ []) m ≡ true
put_listed m [] = rw (eq-eqb m m refl) refl
put_listed m (n ∷ ns) = elim (cases_Bool (n == m)) [
  | inl y ↦ rw y refl
  | inr f ↦ rw f (put_listed m ns)
]

put_other : (m k : ℕ) (ns : List ℕ) → k < m → lists (ns ++ m ∷ []) k ≡ lists ns k
put_other m k [] l = rw (ne_eqb m k (λ e. omega (arith, l, e))) refl
put_other m k (n ∷ ns) l = ap (λ (b : Bool). (n == k) || b) (put_other m k ns l)

-- the number that comes next is listed if it is marked
pub marked_listed : (n : ℕ) (ns : List ℕ) (b : Bool) → AreUpTo n ns → lists (marked ns (n + 1) b) (n + 1) ≡ b
marked_listed n ns true h = put_listed (n + 1) ns
marked_listed n ns false h = not_listed n (n + 1) ns h (omega arith)

pub marked_other : (n k : ℕ) (ns : List ℕ) (b : Bool) → k < n + 1 → lists (marked ns (n + 1) b) k ≡ lists ns k
marked_other n k ns true l = put_other (n + 1) k ns l
marked_other n k ns false l = refl

-- ---- the parts of what is copied

module _ (spell : List ℕ → List ℕ) where
  pub no_part : (n k : ℕ) (ns : List ℕ) (ps : List PartValue) → AreUpTo n ns → n < k → part_bytes spell ns ps k ≡ []
  no_part n k [] ps h l = refl
  no_part n k (m ∷ ns) [] h l = refl
  no_part n k (m ∷ ns) (p ∷ ps) h l = let low = h.0 in rw (ne_eqb m k (λ e. omega (arith, l, low, e))) (no_part n k ns ps h.1 l)

  pub last_part : (n : ℕ) (ns : List ℕ) (ps : List PartValue) (p : PartValue) → AreUpTo n ns → length ns ≡ length ps → part_bytes spell (ns ++ (n + 1) ∷ []) (ps ++ p ∷ []) (n + 1) ≡ spelled_part spell p
  last_part n [] [] p h e = rw (eq-eqb (n + 1) (n + 1) refl) refl
  last_part n [] (q ∷ ps) p h e = absurd (omega (arith, e))
  last_part n (m ∷ ns) [] p h e = absurd (omega (arith, e))
  last_part n (m ∷ ns) (q ∷ ps) p h e = let low = h.0 in rw (ne_eqb m (n + 1) (λ same. omega (arith, low, same))) (last_part n ns ps p h.1 (omega (arith, e)))

  pub other_part : (n k : ℕ) (ns : List ℕ) (ps : List PartValue) (p : PartValue) → k < n + 1 → length ns ≡ length ps → part_bytes spell (ns ++ (n + 1) ∷ []) (ps ++ p ∷ []) k ≡ part_bytes spell ns ps k
  other_part n k [] [] p l e = rw (ne_eqb (n + 1) k (λ same. omega (arith, l, same))) refl
  other_part n k [] (q ∷ ps) p l e = absurd (omega (arith, e))
  other_part n k (m ∷ ns) [] p l e = absurd (omega (arith, e))
  other_part n k (m ∷ ns) (q ∷ ps) p l e = elim (cases_Bool (m == k)) [
    | inl y ↦ rw y refl
    | inr f ↦ rw f (other_part n k ns ps p l (omega (arith, e)))
  ]
