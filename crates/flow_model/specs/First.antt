-- The least number of which a fact holds.
use Rattle.std.specs.Prelude.{ℕ, ◌<◌}

abbrev pub IsFirst : (ℕ → Type 0) → ℕ → Type 0
IsFirst P n = P n × ((m : ℕ) → m < n → ¬ P m)
