-- How a word that is no number begins.
use Rattle.std.specs.Prelude.{◌≡◌, ◌⊎◌, ℕ, ◌<◌, List, [], length, get_or}

-- the bytes are none, or begin with a plus, or with a zero before others
abbrev pub IsNone : List ℕ → Type 0
IsNone bytes = (bytes ≡ []) ⊎ (get_or bytes 0 0 ≡ 43) ⊎ ((get_or bytes 0 0 ≡ 48) × (1 < length bytes))
