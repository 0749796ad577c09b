-- Marks of the numbers below a length that are in a list.
use Rattle.std.specs.Prelude.{◌≡◌, ℕ, ◌<◌, Bool, List, length, slice_index_or, false}
use Rattle.checkpoint_bytes.specs.Texts.{lists}

pub record AreMarksOf (numbers : List ℕ) (len : ℕ) (marks : List Bool) : Type 0 where
  pub size : length marks ≡ len
  pub marked : (n : ℕ) → n < len → slice_index_or marks n false ≡ lists numbers n
