-- How each kind of token is spelled.
use Rattle.std.specs.Prelude.{◌≡◌, ◌≢◌, ◌⊎◌, ℕ, ◌+◌, ◌-◌, ◌*◌, ◌<◌, ◌^◌, pos, negsuc, Bool, false, not, ◌&&◌, ◌||◌, nat_eq, if◌then◌else◌, List, [], ◌∷◌, ◌++◌, length, Option, Some, None, codes, encode_utf8, IsTrue, fold}
use Rattle.std.specs.Char.{is_ascii_digit, is_ascii_hexdigit, digit_value}
use Rattle.py_names.specs.Names.{is_variable}
use Rattle.py_token.specs.declared.pieces.Escape.{Escape}
use Rattle.py_token.specs.declared.kinds.Kind.{Kind}
use Rattle.py_token.specs.declared.kinds.Kind.TheVariants.{Name, Number, Text, Keyword, Symbol, Newline, Indent, Dedent, End}
use Rattle.py_token.specs.declared.kinds.Keyword as keyword
use Rattle.py_token.specs.declared.kinds.Keyword.TheVariants as k
use Rattle.py_token.specs.declared.kinds.Symbol as operator
use Rattle.py_token.specs.declared.kinds.Symbol.TheVariants as o

-- ---- keywords and operators

abbrev pub word : keyword.Keyword → List ℕ
word k.False = codes "False"
word k.None = codes "None"
word k.True = codes "True"
word k.And = codes "and"
word k.As = codes "as"
word k.Assert = codes "assert"
word k.Async = codes "async"
word k.Await = codes "await"
word k.Break = codes "break"
word k.Class = codes "class"
word k.Continue = codes "continue"
word k.Def = codes "def"
word k.Del = codes "del"
word k.Elif = codes "elif"
word k.Else = codes "else"
word k.Except = codes "except"
word k.Finally = codes "finally"
word k.For = codes "for"
word k.From = codes "from"
word k.Global = codes "global"
word k.If = codes "if"
word k.Import = codes "import"
word k.In = codes "in"
word k.Is = codes "is"
word k.Lambda = codes "lambda"
word k.Nonlocal = codes "nonlocal"
word k.Not = codes "not"
word k.Or = codes "or"
word k.Pass = codes "pass"
word k.Raise = codes "raise"
word k.Return = codes "return"
word k.Try = codes "try"
word k.While = codes "while"
word k.With = codes "with"
word k.Yield = codes "yield"

-- in the order of their spellings
unfoldable pub keywords : List keyword.Keyword
keywords = k.False ∷ k.None ∷ k.True ∷ k.And ∷ k.As ∷ k.Assert ∷ k.Async ∷ k.Await ∷ k.Break ∷ k.Class ∷ k.Continue ∷ k.Def ∷ k.Del ∷ k.Elif ∷ k.Else
    ∷ k.Except ∷ k.Finally ∷ k.For ∷ k.From ∷ k.Global ∷ k.If ∷ k.Import ∷ k.In ∷ k.Is ∷ k.Lambda ∷ k.Nonlocal ∷ k.Not ∷ k.Or ∷ k.Pass ∷ k.Raise ∷ k.Return
    ∷ k.Try ∷ k.While ∷ k.With ∷ k.Yield ∷ []

abbrev pub sign : operator.Symbol → List ℕ
sign o.FloorAssign = codes "//="
sign o.PlusAssign = codes "+="
sign o.MinusAssign = codes "-="
sign o.TimesAssign = codes "*="
sign o.ModAssign = codes "%="
sign o.Equal = codes "=="
sign o.NotEqual = codes "!="
sign o.AtMost = codes "<="
sign o.AtLeast = codes ">="
sign o.Floor = codes "//"
sign o.Plus = codes "+"
sign o.Minus = codes "-"
sign o.Times = codes "*"
sign o.Mod = codes "%"
sign o.Less = codes "<"
sign o.More = codes ">"
sign o.Assign = codes "="
sign o.OpenParenthesis = codes "("
sign o.CloseParenthesis = codes ")"
sign o.OpenBracket = codes "["
sign o.CloseBracket = codes "]"
sign o.OpenBrace = codes "{"
sign o.CloseBrace = codes "}"
sign o.Colon = codes ":"
sign o.Comma = codes ","
sign o.Dot = codes "."

-- each spelling before those that it begins with
unfoldable pub operators : List operator.Symbol
operators = o.FloorAssign ∷ o.PlusAssign ∷ o.MinusAssign ∷ o.TimesAssign ∷ o.ModAssign ∷ o.Equal ∷ o.NotEqual ∷ o.AtMost ∷ o.AtLeast ∷ o.Floor ∷ o.Plus
    ∷ o.Minus ∷ o.Times ∷ o.Mod ∷ o.Less ∷ o.More ∷ o.Assign ∷ o.OpenParenthesis ∷ o.CloseParenthesis ∷ o.OpenBracket ∷ o.CloseBracket ∷ o.OpenBrace
    ∷ o.CloseBrace ∷ o.Colon ∷ o.Comma ∷ o.Dot ∷ []

-- ---- numbers

-- digits with single underscores between them
abbrev pub are_digits : List ℕ → Bool
are_digits [] = false
are_digits (d ∷ []) = is_ascii_digit d
are_digits (d ∷ c ∷ rest) = is_ascii_digit d && (if nat_eq c 95 then are_digits rest else are_digits (c ∷ rest))

-- the number that such digits write in base ten
abbrev pub decimal : List ℕ → ℕ
decimal bytes = fold (λ n c. if nat_eq c 95 then n else n * 10 + (c - 48)) 0 bytes

-- no 0 is before another digit, except in 0 itself
abbrev pub leads_well : List ℕ → Type 0
leads_well [] = ⊥
leads_well (d ∷ rest) = (d ≢ 48) ⊎ (decimal rest ≡ 0)

-- ---- texts

abbrev pub is_quote : ℕ → Bool
is_quote c = nat_eq c 39 || nat_eq c 34

-- `\xHH` is the character of that number
abbrev pub hexadecimal : List ℕ → Option Escape
hexadecimal (h ∷ l ∷ rest) =
    if is_ascii_hexdigit h && is_ascii_hexdigit l then Some (record { character = digit_value h * 16 + digit_value l; width = 3 }) else None
hexadecimal _ = None

-- the character that a backslash and the bytes after it mean, and how many of these bytes it takes
abbrev pub escape : List ℕ → Option Escape
escape [] = None
escape (c ∷ rest) =
    if nat_eq c 92 || is_quote c then Some (record { character = c; width = 1 })
    else (if nat_eq c 110 then Some (record { character = 10; width = 1 })
    else (if nat_eq c 114 then Some (record { character = 13; width = 1 })
    else (if nat_eq c 116 then Some (record { character = 9; width = 1 })
    else (if nat_eq c 120 then hexadecimal rest
    else None))))

-- a byte that means itself between such quotes
abbrev pub is_plain : ℕ → ℕ → Bool
is_plain quote c = not (((nat_eq c quote || nat_eq c 92) || nat_eq c 10) || nat_eq c 13)

-- what is between the quotes, and the bytes that it writes
pub data Writes (quote : ℕ) : List ℕ → List ℕ → Type 0 where
  nothing : Writes quote [] []
  plain : {c : ℕ} {spelling value : List ℕ} → IsTrue (is_plain quote c) → Writes quote spelling value → Writes quote (c ∷ spelling) (c ∷ value)
  escaped : (front : List ℕ) {c : ℕ} {spelling value : List ℕ} → escape front ≡ Some (record { character = c; width = length front })
      → Writes quote spelling value → Writes quote (92 ∷ front ++ spelling) (encode_utf8 c ++ value)

-- a text: what writes it, between two quotes of one sort
pub record SpellsText (bytes value : List ℕ) : Type 0 where
  pub quote : ℕ
  pub inner : List ℕ
  pub quoted : bytes ≡ quote ∷ inner ++ quote ∷ []
  pub is_quote : IsTrue (is_quote quote)
  pub writes : Writes quote inner value

-- a number below 2^127
pub record SpellsNumber (bytes : List ℕ) (n : ℕ) : Type 0 where
  pub digits : IsTrue (are_digits bytes)
  pub leads : leads_well bytes
  pub value : decimal bytes ≡ n
  pub fits : n < 2 ^ 127

-- ---- the spelling of each kind of token

abbrev pub Spells : Kind → List ℕ → Type 0
Spells (Name name) bytes = (bytes ≡ name) × IsTrue (is_variable name)
Spells (Keyword k) bytes = bytes ≡ word k
Spells (Number (pos n)) bytes = SpellsNumber bytes n
Spells (Number (negsuc n)) bytes = ⊥
Spells (Text value) bytes = SpellsText bytes value
Spells (Symbol o) bytes = bytes ≡ sign o
Spells Newline bytes = (bytes ≡ 10 ∷ []) ⊎ (bytes ≡ [])
Spells Indent bytes = bytes ≡ []
Spells Dedent bytes = bytes ≡ []
Spells End bytes = bytes ≡ []
