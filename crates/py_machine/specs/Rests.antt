-- The first character of a text, and what comes after it.
use Rattle.std.specs.Prelude.{ℕ, List, [], ◌∷◌, encode_utf8, Option, Some, None}
use Rattle.std.specs.Str.{chars, encode_utf8_all}

abbrev pub cut_of : List ℕ → Option (List ℕ × List ℕ)
cut_of [] = None
cut_of (c ∷ cs) = Some (encode_utf8 c, encode_utf8_all cs)

abbrev pub first_cut : List ℕ → Option (List ℕ × List ℕ)
first_cut text = cut_of (chars text)
