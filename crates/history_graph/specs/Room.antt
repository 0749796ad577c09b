-- The first of three numbers that reaches 2^32.
use Rattle.std.specs.Prelude.{ℕ, ◌+◌, ◌<◌, ◌≤◌, Option, Some, None, ◌^◌}
use Rattle.graph_model.specs.declared.plan.Tally.{Tally}
use Rattle.graph_model.specs.declared.plan.Tally.TheVariants as tally

-- of a cell more than these, versions with the new ones, and names
abbrev pub IsFirstOf : ℕ → ℕ → ℕ → ℕ → Option Tally → Type 0
IsFirstOf cells versions news names None = (cells + 1 < 2 ^ 32) × (versions + news < 2 ^ 32) × (names < 2 ^ 32)
IsFirstOf cells versions news names (Some tally.Cells) = 2 ^ 32 ≤ cells + 1
IsFirstOf cells versions news names (Some tally.Versions) = (cells + 1 < 2 ^ 32) × (2 ^ 32 ≤ versions + news)
IsFirstOf cells versions news names (Some tally.Names) = (cells + 1 < 2 ^ 32) × (versions + news < 2 ^ 32) × (2 ^ 32 ≤ names)
IsFirstOf cells versions news names (Some tally.Count) = ⊥
IsFirstOf cells versions news names (Some tally.Texts) = ⊥
IsFirstOf cells versions news names (Some tally.Bytes) = ⊥

-- of these numbers, and then of the texts, of which it is said whether there are too many
abbrev pub IsFirstWith : ℕ → ℕ → ℕ → ℕ → Type 0 → Option Tally → Type 0
IsFirstWith cells versions news names Many None = IsFirstOf cells versions news names None × (¬ Many)
IsFirstWith cells versions news names Many (Some tally.Texts) = IsFirstOf cells versions news names None × Many
IsFirstWith cells versions news names Many (Some tally.Count) = IsFirstOf cells versions news names (Some tally.Count)
IsFirstWith cells versions news names Many (Some tally.Cells) = IsFirstOf cells versions news names (Some tally.Cells)
IsFirstWith cells versions news names Many (Some tally.Versions) = IsFirstOf cells versions news names (Some tally.Versions)
IsFirstWith cells versions news names Many (Some tally.Names) = IsFirstOf cells versions news names (Some tally.Names)
IsFirstWith cells versions news names Many (Some tally.Bytes) = IsFirstOf cells versions news names (Some tally.Bytes)
