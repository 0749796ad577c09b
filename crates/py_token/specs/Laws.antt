-- What the tokens of a text are to it.
use Rattle.std.specs.Prelude.{◌≡◌, ℕ, ◌≤◌, Bool, not, ◌||◌, nat_eq, List, [], ◌∷◌, ◌++◌, length, drop, IsTrue}
use Rattle.std.specs.List.{slice_range, list_all}
use Rattle.py_token.specs.declared.kinds.Token.{Token}
use Rattle.py_token.specs.declared.kinds.Kind.TheVariants.{End}
use Rattle.py_token.specs.declared.faults.TokenFault.{TokenFault}
use Rattle.py_token.specs.declared.faults.TokenFault.TheVariants.{BadChar, OpenText, BadIndent, Tab, WideNumber, LongName}
use Rattle.py_token.specs.Spellings.{Spells}
use Rattle.py_token.specs.Lexemes.{next_is, ends_line}
use Rattle.py_token.specs.Lines.{in_comment, token}

-- a space, a tab or a line's end
abbrev pub is_white : ℕ → Bool
is_white c = (nat_eq c 32 || nat_eq c 9) || nat_eq c 10

-- bytes that spell nothing, before those bytes: white space, CRs directly before an LF, and comments to the line's end
pub data Blank : List ℕ → List ℕ → Type 0 where
  nothing : {rest : List ℕ} → Blank [] rest
  white : {c : ℕ} {gap rest : List ℕ} → IsTrue (is_white c) → Blank gap rest → Blank (c ∷ gap) rest
  carriage : {gap rest : List ℕ} → IsTrue (ends_line (gap ++ rest)) → Blank gap rest → Blank (13 ∷ gap) rest
  comment : (words : List ℕ) {gap rest : List ℕ} → IsTrue (list_all in_comment words) → IsTrue (not (next_is in_comment (gap ++ rest))) → Blank gap rest
      → Blank (35 ∷ words ++ gap) rest

-- the next token from a place on: its span is in the text and spells it, and what is between is blank
pub record Stands (code : List ℕ) (from : ℕ) (t : Token) : Type 0 where
  pub after : from ≤ t.start
  pub ordered : t.start ≤ t.end
  pub within : t.end ≤ length code
  pub blank : Blank (slice_range code from t.start) (drop t.start code)
  pub spelled : Spells t.kind (slice_range code t.start t.end)

-- from a place on, the text is these tokens and the blanks between them
abbrev pub Cover : List ℕ → ℕ → List Token → Type 0
Cover code from [] = from ≡ length code
Cover code from (t ∷ ts) = Stands code from t × Cover code t.end ts

-- the last token is the end of the text
pub record EndsWell (code : List ℕ) (ts : List Token) : Type 0 where
  pub front : List Token
  pub last : ts ≡ front ++ token End (length code) 0 ∷ []

abbrev pub place : TokenFault → ℕ
place (BadChar at) = at
place (OpenText at) = at
place (BadIndent at) = at
place (Tab at) = at
place (WideNumber at) = at
place (LongName at) = at
