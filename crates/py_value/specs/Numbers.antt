-- The number that a text spells: a sign or none, digits, and white space around them.
use Rattle.std.specs.Prelude.{ℕ, zero, suc, ◌+◌, ◌-◌, ◌*◌, ◌^◌, ℤ, pos, negsuc, Bool, not, ◌&&◌, ◌||◌, cond, ◌==◌, nat_lt, nat_le, List, [], ◌∷◌, length, reverse, Option, Some, None, Result, Ok, Err}
use Rattle.std.specs.List.{list_all}
use Rattle.std.specs.Char.{is_ascii_digit}
use Rattle.py_value.specs.declared.number.NumberFault.{NumberFault}
use Rattle.py_value.specs.declared.number.NumberFault.TheVariants.{Invalid, Wide}

-- a space, or one of TAB, LF, VT, FF and CR, which are 9 to 13
abbrev pub is_space : ℕ → Bool
is_space c = (c == 32) || (nat_le 9 c && nat_le c 13)

-- without the white space in front, and without that at the end
unfoldable pub without_front : List ℕ → List ℕ
without_front [] = []
without_front (c ∷ cs) = cond (is_space c) (without_front cs) (c ∷ cs)

abbrev pub without_end : List ℕ → List ℕ
without_end cs = reverse (without_front (reverse cs))

-- one digit or more, and nothing else
abbrev pub are_digits : List ℕ → Bool
are_digits cs = list_all is_ascii_digit cs && not (length cs == 0)

-- the number that digits spell in decimal, after the number of the digits before them
unfoldable pub decimal_from : ℕ → List ℕ → ℕ
decimal_from n [] = n
decimal_from n (c ∷ cs) = decimal_from (n * 10 + (c - 48)) cs

abbrev pub up_to_limit : ℕ → Option ℕ
up_to_limit n = cond (nat_le n (2 ^ 127)) (Some n) None

-- the number below zero of that size
abbrev pub negated : ℕ → ℤ
negated zero = pos 0
negated (suc n) = negsuc n

-- numbers end below 2^127, and begin at -2^127
abbrev pub as_positive : ℕ → Result ℤ NumberFault
as_positive n = cond (nat_lt n (2 ^ 127)) (Ok (pos n)) (Err Wide)

abbrev pub as_negative : ℕ → Result ℤ NumberFault
as_negative n = cond (nat_le n (2 ^ 127)) (Ok (negated n)) (Err Wide)

unfoldable pub positive : List ℕ → Result ℤ NumberFault
positive cs = cond (are_digits cs) (as_positive (decimal_from 0 cs)) (Err Invalid)

unfoldable pub negative : List ℕ → Result ℤ NumberFault
negative cs = cond (are_digits cs) (as_negative (decimal_from 0 cs)) (Err Invalid)

-- 45 is the minus, and 43 the plus
unfoldable pub signed : List ℕ → Result ℤ NumberFault
signed [] = positive []
signed (c ∷ cs) = cond (c == 45) (negative cs) (cond (c == 43) (positive cs) (positive (c ∷ cs)))

abbrev pub number_of : List ℕ → Result ℤ NumberFault
number_of cs = signed (without_end (without_front cs))
