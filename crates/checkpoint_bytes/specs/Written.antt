-- Bytes that are written to a sink piece by piece.
use Rattle.std.specs.Prelude.{◌≡◌, ℕ, List, ◌++◌, Option}
use Rattle.nb_outside.specs.Streams.{Adds}

-- the first of the bytes were added
abbrev pub AddsFront : Option (List ℕ) → Option (List ℕ) → List ℕ → Type 0
AddsFront old new bytes = (front : List ℕ) × (back : List ℕ) × (bytes ≡ front ++ back) × Adds old new front

-- the first of the bytes were added, and the rest is held
pub record WritesSoFar (old new : Option (List ℕ)) (bytes rest : List ℕ) : Type 0 where
  pub done : List ℕ
  pub parts : bytes ≡ done ++ rest
  pub adds : Adds old new done
