-- Lines, indentation and the whole text.
use Rattle.std.specs.Prelude.{ℕ, zero, suc, pred, ◌+◌, ◌-◌, Bool, false, ◌&&◌, ◌||◌, not, nat_eq, nat_lt, if◌then◌else◌, List, [], ◌∷◌, ◌++◌, Some, None, Result, Ok, Err}
use Rattle.std.specs.List.{prefix_len}
use Rattle.py_token.specs.declared.kinds.Kind.{Kind}
use Rattle.py_token.specs.declared.kinds.Kind.TheVariants.{Newline, Indent, Dedent, End, Symbol}
use Rattle.py_token.specs.declared.kinds.Symbol.TheVariants.{OpenParenthesis, CloseParenthesis, OpenBracket, CloseBracket, OpenBrace, CloseBrace}
use Rattle.py_token.specs.declared.kinds.Token.{Token}
use Rattle.py_token.specs.declared.faults.TokenFault.{TokenFault}
use Rattle.py_token.specs.declared.faults.TokenFault.TheVariants.{BadIndent, Tab}
use Rattle.py_token.specs.declared.lines.Line.{Line}
use Rattle.py_token.specs.declared.lines.Spot.{Spot}
use Rattle.py_token.specs.declared.lines.Spot.TheVariants.{Start, Inside}
use Rattle.py_token.specs.declared.lines.Lexeme.{Lexeme}
use Rattle.py_token.specs.declared.lines.Depths.{Depths}
use Rattle.py_token.specs.declared.lines.Turn.{Turn}
use Rattle.py_token.specs.Lexemes.{ends_line, lexeme_at}

abbrev pub token : Kind → ℕ → ℕ → Token
token kind at width = record { kind = kind; start = at; end = at + width }

-- ---- indentation

-- a block ends at that place
abbrev pub ends_block : ℕ → Result Depths TokenFault → Result Depths TokenFault
ends_block at (Ok d) = Ok (record { given = token Dedent at 0 ∷ d.given; depths = d.depths })
ends_block at (Err f) = Err f

-- a shallower line ends each deeper block, and its depth has to be open
unfoldable pub shallower : ℕ → ℕ → List ℕ → Result Depths TokenFault
shallower at depth [] = Err (BadIndent at)
shallower at depth (d ∷ depths) =
    if nat_lt depth d then ends_block at (shallower at depth depths)
    else (if nat_eq d depth then Ok (record { given = []; depths = d ∷ depths }) else Err (BadIndent at))

abbrev pub is_deeper : ℕ → List ℕ → Bool
is_deeper depth [] = false
is_deeper depth (d ∷ depths) = nat_lt d depth

-- a deeper line begins a block
unfoldable pub indented : ℕ → ℕ → List ℕ → Result Depths TokenFault
indented at depth depths =
    if is_deeper depth depths then Ok (record { given = token Indent at 0 ∷ []; depths = depth ∷ depths }) else shallower at depth depths

-- the first token of a line begins at that place
unfoldable pub begun : ℕ → Spot → List ℕ → Result Depths TokenFault
begun at Inside depths = Ok (record { given = []; depths = depths })
begun at (Start from None) depths = indented at (at - from) depths
begun at (Start from (Some tab)) depths = Err (Tab tab)

-- ---- one turn

-- brackets, whatever their kind
abbrev pub brackets_after : Kind → ℕ → ℕ
brackets_after (Symbol OpenParenthesis) n = n + 1
brackets_after (Symbol OpenBracket) n = n + 1
brackets_after (Symbol OpenBrace) n = n + 1
brackets_after (Symbol CloseParenthesis) n = n - 1
brackets_after (Symbol CloseBracket) n = n - 1
brackets_after (Symbol CloseBrace) n = n - 1
brackets_after _ n = n

-- a token, after the blocks that begin or end there
abbrev pub placed : ℕ → Line → Result Depths TokenFault → Result Lexeme TokenFault → Result Turn TokenFault
placed at line (Err f) lexeme = Err f
placed at line (Ok d) (Err f) = Err f
placed at line (Ok d) (Ok l) = Ok (record {
  tokens = d.given ++ token l.kind at l.width ∷ [];
  width = l.width;
  line = record { spot = Inside; depths = d.depths; brackets = brackets_after l.kind line.brackets };
})

-- that many bytes give no token
abbrev pub passed : ℕ → Line → Result Turn TokenFault
passed width line = Ok (record { tokens = []; width = width; line = line })

abbrev pub at_spot : Spot → Line → Line
at_spot spot line = record { spot = spot; depths = line.depths; brackets = line.brackets }

-- the next line begins
abbrev pub next_line : ℕ → Line → Line
next_line at line = at_spot (Start (at + 1) None) line

-- a line's end: a Newline, unless the line has no token or a bracket is open
abbrev pub line_ended : ℕ → Line → Spot → Result Turn TokenFault
line_ended at line (Start from tab) = passed 1 (next_line at line)
line_ended at line Inside =
    if nat_eq line.brackets 0 then Ok (record { tokens = token Newline at 1 ∷ []; width = 1; line = next_line at line }) else passed 1 line

abbrev pub with_tab : ℕ → Spot → Spot
with_tab at (Start from None) = Start from (Some at)
with_tab at (Start from (Some tab)) = Start from (Some tab)
with_tab at Inside = Inside

-- a comment ends the line, so that its tabs don't count
abbrev pub without_tab : Spot → Spot
without_tab (Start from tab) = Start from None
without_tab Inside = Inside

abbrev pub in_comment : ℕ → Bool
in_comment c = not (nat_eq c 10 || nat_eq c 13)

-- what is read at the front of these bytes, by the first of them
unfoldable pub turn : ℕ → Line → List ℕ → Result Turn TokenFault
turn at line [] = passed 0 line
turn at line (c ∷ rest) =
    if nat_eq c 32 then passed 1 line
    else (if nat_eq c 9 then passed 1 (at_spot (with_tab at line.spot) line)
    else (if nat_eq c 35 then passed (1 + prefix_len in_comment rest) (at_spot (without_tab line.spot) line)
    else (if nat_eq c 10 then line_ended at line line.spot
    else (if nat_eq c 13 && ends_line rest then passed 1 line
    else placed at line (begun at line.spot line.depths) (lexeme_at at (c ∷ rest))))))

-- ---- the whole text

-- the blocks that are open end
abbrev pub closing : ℕ → List ℕ → List Token
closing at [] = []
closing at (d ∷ depths) = if nat_eq d 0 then closing at depths else token Dedent at 0 ∷ closing at depths

abbrev pub last_newline : ℕ → Spot → ℕ → List Token
last_newline at (Start from tab) brackets = []
last_newline at Inside brackets = if nat_eq brackets 0 then token Newline at 0 ∷ [] else []

abbrev pub ended : ℕ → Line → List Token
ended at line = last_newline at line.spot line.brackets ++ (closing at line.depths ++ token End at 0 ∷ [])

abbrev pub before : List Token → Result (List Token) TokenFault → Result (List Token) TokenFault
before first (Ok others) = Ok (first ++ others)
before first (Err f) = Err f

abbrev pub followed : Result Turn TokenFault → (ℕ → Line → Result (List Token) TokenFault) → Result (List Token) TokenFault
followed (Err f) next = Err f
followed (Ok t) next = before t.tokens (next (pred t.width) t.line)

-- the tokens from a place on; the first number counts the bytes of what was read that are passed over
unfoldable pub read : ℕ → ℕ → Line → List ℕ → Result (List Token) TokenFault
read skip at line [] = Ok (ended at line)
read (suc n) at line (c ∷ rest) = read n (suc at) line rest
read zero at line (c ∷ rest) = followed (turn at line (c ∷ rest)) (λ n next. read n (suc at) next rest)

abbrev pub start : Line
start = record { spot = Start 0 None; depths = 0 ∷ []; brackets = 0 }

-- the tokens of a text, or the first fault in it
unfoldable pub tokens_of : List ℕ → Result (List Token) TokenFault
tokens_of code = read 0 0 start code
