-- What is known of a text of which some bytes have been read.
use Rattle.std.specs.Prelude.{ℕ, ◌+◌, ◌<◌, ◌≤◌, ◌++◌, List, Option, Some, None, Result, Ok, Err}
use Rattle.std.specs.Str.{IsUtf8}
use Rattle.py_token.specs.declared.faults.TokenFault.{TokenFault}
use Rattle.py_token.specs.declared.kinds.Token.{Token}
use Rattle.py_token.specs.declared.lines.Depths.{Depths}
use Rattle.py_token.specs.declared.pieces.Body.{Body}
use Rattle.py_token.specs.declared.pieces.Body.TheVariants.{Closed, Unclosed, Spoiled}

-- the closing quote comes
abbrev pub closed : List ℕ → Option ℕ → ℕ → Body
closed written None width = Closed written width
closed written (Some bad) width = Spoiled bad

-- those bytes are written, that many are read, and the first bad character among these, if there is one, comes before a later one
abbrev pub read_on : List ℕ → Option ℕ → ℕ → Body → Body
read_on written bad at Unclosed = Unclosed
read_on written bad at (Closed value width) = closed (written ++ value) bad (at + width)
read_on written None at (Spoiled n) = Spoiled (at + n)
read_on written (Some bad) at (Spoiled n) = Spoiled bad

-- the byte or the width that is named is within that many bytes
abbrev pub IsWithin : Body → ℕ → Type 0
IsWithin Unclosed n = Unit {0}
IsWithin (Closed value width) n = (0 < width) × (width ≤ n)
IsWithin (Spoiled place) n = place < n

-- the bytes are the end of a text
abbrev pub EndsText : List ℕ → Type 0
EndsText bytes = (front : List ℕ) × IsUtf8 (front ++ bytes)

-- those tokens before the others
abbrev pub with_given : List Token → Result Depths TokenFault → Result Depths TokenFault
with_given given (Ok d) = Ok (record { given = given ++ d.given; depths = d.depths })
with_given given (Err f) = Err f
