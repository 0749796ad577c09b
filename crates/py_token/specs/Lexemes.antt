-- The lexeme at the front of some bytes: a name, a keyword, a number, a text or an operator, or what is wrong there.
use Rattle.std.specs.Prelude.{ℕ, zero, suc, ◌+◌, ◌^◌, pos, Bool, false, ◌&&◌, ◌||◌, nat_eq, nat_le, nat_lt, if◌then◌else◌, List, [], ◌∷◌, ◌++◌, length, take, drop, Option, Some, None, Result, Ok, Err, find, encode_utf8}
use Rattle.std.specs.List.{starts_with, prefix_len}
use Rattle.std.specs.Char.{is_ascii_digit}
use Rattle.py_names.specs.Names.{begins_name, continues_name, same_text}
use Rattle.py_token.specs.declared.kinds.Kind.{Kind}
use Rattle.py_token.specs.declared.kinds.Kind.TheVariants.{Name, Number, Text, Keyword, Symbol}
use Rattle.py_token.specs.declared.kinds.Keyword as keyword
use Rattle.py_token.specs.declared.kinds.Symbol as operator
use Rattle.py_token.specs.declared.faults.TokenFault.{TokenFault}
use Rattle.py_token.specs.declared.faults.TokenFault.TheVariants.{BadChar, OpenText, WideNumber, LongName}
use Rattle.py_token.specs.declared.pieces.Escape.{Escape}
use Rattle.py_token.specs.declared.pieces.Piece.{Piece}
use Rattle.py_token.specs.declared.pieces.Piece.TheVariants.{Quote, LineEnd, Bad, Plain, Escaped}
use Rattle.py_token.specs.declared.pieces.Body.{Body}
use Rattle.py_token.specs.declared.pieces.Body.TheVariants.{Closed, Unclosed, Spoiled}
use Rattle.py_token.specs.declared.lines.Lexeme.{Lexeme}
use Rattle.py_token.specs.Spellings.{word, keywords, sign, operators, decimal, is_quote, escape}

-- the first byte, if there is one, passes
abbrev pub next_is : (ℕ → Bool) → List ℕ → Bool
next_is p [] = false
next_is p (c ∷ rest) = p c

-- a lexeme of that width, unless the byte directly after it passes the test: then it is a bad character
abbrev pub unless_next : (ℕ → Bool) → ℕ → List ℕ → ℕ → Kind → Result Lexeme TokenFault
unless_next bad at bytes width kind =
    if next_is bad (drop width bytes) then Err (BadChar (at + width)) else Ok (record { kind = kind; width = width })

-- ---- names

abbrev pub keyword_of : List ℕ → Option keyword.Keyword
keyword_of name = find (λ k. same_text (word k) name) keywords

abbrev pub named : Option keyword.Keyword → List ℕ → Kind
named None name = Name name
named (Some k) name = Keyword k

unfoldable pub name_at : ℕ → List ℕ → Result Lexeme TokenFault
name_at at bytes =
    let width = prefix_len continues_name bytes in
    let name = take width bytes in
    if nat_lt 255 width then Err (LongName at) else unless_next is_quote at bytes width (named (keyword_of name) name)

-- ---- numbers

-- after a first 0 only 0s belong to its number
abbrev pub belongs : ℕ → ℕ → Bool
belongs first c = if nat_eq first 48 then nat_eq c 48 else is_ascii_digit c

-- how many bytes of digits, with single underscores between them, are after such a first digit
abbrev pub digits_after : ℕ → List ℕ → ℕ
digits_after first [] = 0
digits_after first (c ∷ []) = if belongs first c then 1 else 0
digits_after first (c ∷ d ∷ rest) =
    if belongs first c then suc (digits_after first (d ∷ rest))
    else (if nat_eq c 95 && belongs first d then suc (suc (digits_after first rest)) else 0)

abbrev pub follows_no_number : ℕ → Bool
follows_no_number c = continues_name c || nat_eq c 46

-- 0s alone, or a digit 1 to 9 and digits
abbrev pub number_width : List ℕ → ℕ
number_width [] = 0
number_width (c ∷ rest) = suc (digits_after c rest)

unfoldable pub number_at : ℕ → List ℕ → Result Lexeme TokenFault
number_at at bytes =
    let width = number_width bytes in
    let value = decimal (take width bytes) in
    if nat_le (2 ^ 127) value then Err (WideNumber at) else unless_next follows_no_number at bytes width (Number (pos value))

-- ---- texts

abbrev pub ends_line : List ℕ → Bool
ends_line bytes = next_is (λ c. nat_eq c 10) bytes

abbrev pub escaped : Option Escape → Piece
escaped None = Bad
escaped (Some e) = Escaped e

-- what is at a place between the quotes, by its first byte and the bytes after it
unfoldable pub piece : ℕ → ℕ → List ℕ → Piece
piece quote c rest =
    if nat_eq c quote then Quote
    else (if nat_eq c 10 then LineEnd
    else (if nat_eq c 13 then (if ends_line rest then LineEnd else Bad)
    else (if nat_eq c 92 then escaped (escape rest)
    else Plain c)))

-- one more byte in front, which writes these
abbrev pub after : List ℕ → Body → Body
after written (Closed value width) = Closed (written ++ value) (suc width)
after written Unclosed = Unclosed
after written (Spoiled n) = Spoiled (suc n)

-- a bad character in front
abbrev pub spoil : Body → Body
spoil Unclosed = Unclosed
spoil _ = Spoiled 0

-- a piece, and what follows it once the other bytes of the piece are passed over
abbrev pub follow : Piece → (ℕ → Body) → Body
follow Quote next = Closed [] 1
follow LineEnd next = Unclosed
follow Bad next = spoil (next zero)
follow (Plain c) next = after (c ∷ []) (next zero)
follow (Escaped e) next = after (encode_utf8 e.character) (next e.width)

-- what is after an opening quote; the number counts the bytes of an escape that are passed over
unfoldable pub body : ℕ → ℕ → List ℕ → Body
body quote skip [] = Unclosed
body quote (suc n) (c ∷ rest) = after [] (body quote n rest)
body quote zero (c ∷ rest) = follow (piece quote c rest) (λ n. body quote n rest)

abbrev pub text_lexeme : ℕ → List ℕ → Body → Result Lexeme TokenFault
text_lexeme at bytes Unclosed = Err (OpenText at)
text_lexeme at bytes (Spoiled n) = Err (BadChar (at + suc n))
text_lexeme at bytes (Closed value width) = unless_next is_quote at bytes (suc width) (Text value)

unfoldable pub text_at : ℕ → ℕ → List ℕ → Result Lexeme TokenFault
text_at at quote rest = text_lexeme at (quote ∷ rest) (body quote zero rest)

-- ---- operators

abbrev pub operator_lexeme : ℕ → Option operator.Symbol → Result Lexeme TokenFault
operator_lexeme at None = Err (BadChar at)
operator_lexeme at (Some o) = Ok (record { kind = Symbol o; width = length (sign o) })

unfoldable pub operator_at : ℕ → List ℕ → Result Lexeme TokenFault
operator_at at bytes = operator_lexeme at (find (λ o. starts_with nat_eq bytes (sign o)) operators)

-- ---- any of them, by its first byte

unfoldable pub lexeme_at : ℕ → List ℕ → Result Lexeme TokenFault
lexeme_at at [] = Err (BadChar at)
lexeme_at at (c ∷ rest) =
    if begins_name c then name_at at (c ∷ rest)
    else (if is_ascii_digit c then number_at at (c ∷ rest)
    else (if is_quote c then text_at at c rest
    else operator_at at (c ∷ rest)))
