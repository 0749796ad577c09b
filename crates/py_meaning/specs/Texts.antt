-- Texts in texts, by their bytes. (Python reference: `str` methods, membership test operations.)
use Rattle.std.specs.Prelude.{ℕ, zero, suc, ◌-◌, Bool, true, false, cond, ◌&&◌, ◌||◌, ◌==◌, List, [], ◌∷◌, ◌++◌, length, reverse}

-- the second text begins with the first
abbrev pub begins : List ℕ → List ℕ → Bool
begins [] text = true
begins (x ∷ piece) [] = false
begins (x ∷ piece) (y ∷ text) = (x == y) && begins piece text

-- the second text ends with the first
abbrev pub ends : List ℕ → List ℕ → Bool
ends piece text = begins (reverse piece) (reverse text)

-- the first text is somewhere in the second
abbrev pub occurs : List ℕ → List ℕ → Bool
occurs piece [] = begins piece []
occurs piece (x ∷ text) = begins piece (x ∷ text) || occurs piece text

-- the pieces of a text between the occurrences of a separator, from left to right: `piece` has the bytes of the first one so far,
-- and `over` bytes of a separator are still to be passed over
abbrev pub pieces : List ℕ → List ℕ → ℕ → List ℕ → List (List ℕ)
pieces separator piece over [] = piece ∷ []
pieces separator piece (suc over) (x ∷ text) = pieces separator piece over text
pieces separator piece zero (x ∷ text) =
    cond (begins separator (x ∷ text)) (piece ∷ pieces separator [] (length separator - 1) text) (pieces separator (piece ++ x ∷ []) zero text)

-- the pieces between the occurrences of a separator that isn't empty
abbrev pub split_at : List ℕ → List ℕ → List (List ℕ)
split_at separator text = pieces separator [] 0 text
