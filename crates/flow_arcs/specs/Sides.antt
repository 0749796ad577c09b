-- A set of nodes that is given as a list.
use Rattle.std.specs.Prelude.{ℕ, Bool, false, List, slice_index_or}

-- whether a node is in: the entry at its number, and false after the end
abbrev pub side : List Bool → ℕ → Bool
side inside node = slice_index_or inside node false
