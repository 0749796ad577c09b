-- The cells of a run's sessions.
use Rattle.std.specs.Prelude.{◌≡◌, ℕ, ◌+◌, List, [], ◌∷◌, length}
use Rattle.session_queues.specs.declared.shared.SharedQueues.{SharedQueues}

-- the cells have these numbers, from this one on
abbrev pub AreNumbered : ℕ → List (SharedQueues × ℕ) → Type 0
AreNumbered n [] = Unit {0}
AreNumbered n (cell ∷ cells) = (cell.1 ≡ n) × AreNumbered (n + 1) cells

-- one cell for each of the 256 numbers
pub record IsTable (cells : List (SharedQueues × ℕ)) : Type 0 where
  pub numbered : AreNumbered 0 cells
  pub all : length cells ≡ 256
