-- Counts that don't change any more at the end of their type.
use Rattle.std.specs.Prelude.{ℕ, ◌+◌, ◌<◌, ◌≤◌, ◌⊎◌, min}

-- 2^64 - 1
abbrev pub last_count : ℕ
last_count = 18446744073709551615

abbrev pub next_count : ℕ → ℕ
next_count n = min (n + 1) last_count

-- the count is greater now, or is at its end
abbrev pub HasRisen : ℕ → ℕ → Type 0
HasRisen old new = (old < new) ⊎ (last_count ≤ new)

-- the count is greater by at least that much, or is at its end
abbrev pub HasRisenBy : ℕ → ℕ → ℕ → Type 0
HasRisenBy by old new = (old + by ≤ new) ⊎ (last_count ≤ new)
