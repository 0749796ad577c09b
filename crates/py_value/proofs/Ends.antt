-- The end of a list is the front of the reversed one.
use Rattle.std.proofs.Common.{◌≡◌, ℕ, List, [], ◌∷◌, ◌++◌, reverse}
use Rattle.std.proofs.lemmas.List.{reverse-append, reverse-reverse}

pub reversed_end : (xs : List ℕ) (x : ℕ) → reverse (xs ++ x ∷ []) ≡ x ∷ reverse xs
reversed_end xs x = reverse-append xs (x ∷ [])

pub reversed_twice : (xs : List ℕ) → reverse (reverse xs) ≡ xs
reversed_twice xs = reverse-reverse xs
