-- The text that a key shows.
use Rattle.std.specs.Prelude.{ℕ, ◌/◌, ◌%◌, Bool, true, false, not, ◌&&◌, ◌||◌, cond, ◌==◌, nat_lt, nat_le, List, [], ◌∷◌, ◌++◌, codes}
use Rattle.std.specs.List.{list_any, flat_map}
use Rattle.std.specs.Char.{digit_char}
use Rattle.std.specs.Fmt.{signed_decimal}
use Rattle.py_value.specs.declared.key.Key.{Key}
use Rattle.py_value.specs.declared.key.Key.TheVariants as key

abbrev pub has : ℕ → List ℕ → Bool
has c cs = list_any (λ d. d == c) cs

-- the single quote is 39, and the double quote 34
abbrev pub quote_of : List ℕ → ℕ
quote_of cs = cond (has 39 cs && not (has 34 cs)) 34 39

-- a backslash, which is 92, an x, and two hexadecimal digits
abbrev pub hexadecimal : ℕ → List ℕ
hexadecimal c = 92 ∷ 120 ∷ digit_char (c / 16) ∷ digit_char (c % 16) ∷ []

-- a byte that shows as itself between quotes
abbrev pub is_plain : ℕ → ℕ → Bool
is_plain quote c = nat_le 32 c && (not (c == 127) && (not (c == 92) && not (c == quote)))

-- what a byte shows as between quotes
unfoldable pub escaped : ℕ → ℕ → List ℕ
escaped quote c = cond ((c == 92) || (c == quote)) (92 ∷ c ∷ [])
    (cond (c == 10) (codes "\\n") (cond (c == 13) (codes "\\r") (cond (c == 9) (codes "\\t")
    (cond (nat_lt c 32 || (c == 127)) (hexadecimal c) (c ∷ [])))))

unfoldable pub between : ℕ → List ℕ → List ℕ
between quote cs = quote ∷ flat_map (escaped quote) cs ++ quote ∷ []

abbrev pub quoted : List ℕ → List ℕ
quoted cs = between (quote_of cs) cs

abbrev pub key_text : Key → List ℕ
key_text key.Nothing = codes "None"
key_text (key.Bool true) = codes "True"
key_text (key.Bool false) = codes "False"
key_text (key.Number n) = signed_decimal n
key_text (key.Text t) = quoted t
