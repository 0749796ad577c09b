-- Lists, taken in turns.
use Rattle.std.specs.Prelude.{◌≡◌, ◌⊎◌, List, [], ◌∷◌, ◌++◌}
use Rattle.std.specs.List.{AllByRecursion}

module _ {A : Type 0} where
  -- it is the first of one of the lists, and these lists are left
  abbrev pub IsTakenOf : List (List A) → A → List (List A) → Type 0
  IsTakenOf [] x left = ⊥
  IsTakenOf (l ∷ lists) x left =
      ((more : List A) × (l ≡ x ∷ more) × (left ≡ more ∷ lists)) ⊎ ((others : List (List A)) × IsTakenOf lists x others × (left ≡ l ∷ others))

  -- These are all that is in the lists, each list's in its order: nothing, if each is empty; or the first of one of them, and then what
  -- is left.
  abbrev pub Interleaves : List (List A) → List A → Type 0
  Interleaves lists [] = AllByRecursion (λ l. l ≡ []) lists
  Interleaves lists (x ∷ xs) = (left : List (List A)) × IsTakenOf lists x left × Interleaves left xs

  -- it is put at the end of one of the lists, and these lists come of it
  abbrev pub IsPutTo : List (List A) → A → List (List A) → Type 0
  IsPutTo [] x longer = ⊥
  IsPutTo (l ∷ lists) x longer =
      (longer ≡ (l ++ x ∷ []) ∷ lists) ⊎ ((others : List (List A)) × IsPutTo lists x others × (longer ≡ l ∷ others))

  -- each list is the front of the longer one
  abbrev pub AreFronts : List (List A) → List (List A) → Type 0
  AreFronts [] [] = Unit {0}
  AreFronts [] (m ∷ longer) = ⊥
  AreFronts (l ∷ lists) [] = ⊥
  AreFronts (l ∷ lists) (m ∷ longer) = ((more : List A) × (m ≡ l ++ more)) × AreFronts lists longer
