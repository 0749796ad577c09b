-- The outermost of what is kept the outermost first.
use Rattle.std.proofs.Common.{◌≡◌, List, [], ◌∷◌, ◌++◌, reverse, slice_get, Option, Some, None, refl, ap, ◌∙◌, sym}
use Rattle.std.proofs.lemmas.List.{reverse-append}
use Rattle.py_frames.specs.Ends.{last_from, outermost}

last-of : {A : Type 0} (o : Option A) (xs : List A) (x : A) → last_from o (xs ++ x ∷ []) ≡ Some x
last-of o [] x = refl
last-of o (y ∷ xs) x = last-of (Some y) xs x

pub first_outermost : {A : Type 0} (xs : List A) → slice_get xs 0 ≡ outermost (reverse xs)
first_outermost [] = refl
first_outermost (x ∷ xs) = sym (ap outermost (reverse-append (x ∷ []) xs) ∙ last-of None (reverse xs) x)
