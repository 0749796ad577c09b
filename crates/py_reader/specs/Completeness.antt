-- How far a text is a cell, and how far its next line is indented.
use Rattle.std.specs.Prelude.{◌≡◌, ℕ, ◌+◌, nat_eq, not, true, List, ◌-◌, length, reverse, take, drop, take_while, Option, Some, None, Result, Ok, Err}
use Rattle.py_token.specs.declared.kinds.Kind.{Kind}
use Rattle.py_token.specs.declared.kinds.Token.{Token}
use Rattle.py_token.specs.declared.faults.TokenFault.{TokenFault}
use Rattle.py_token.specs.Lines.{tokens_of}
use Rattle.py_grammar.specs.Words.{colon}
use Rattle.py_blocks.specs.Source.{last_word}
use Rattle.py_reader.specs.declared.fault.SyntaxFault.TheVariants.{NoParse}
use Rattle.py_reader.specs.declared.answer.Completeness.{Completeness}
use Rattle.py_reader.specs.declared.answer.Completeness.TheVariants.{Complete, Incomplete, Invalid}
use Rattle.py_reader.specs.Verdicts.{Verdict}
use Rattle.py_reader.specs.Verdict.{Judged}

-- how many bytes are after the last LF
abbrev pub last_line_length : List ℕ → ℕ
last_line_length bytes = length (take_while (λ byte. not (nat_eq byte 10)) (reverse bytes))

-- the bytes after the last LF
abbrev pub last_line : List ℕ → List ℕ
last_line bytes = drop (length bytes - last_line_length bytes) bytes

-- how many spaces a line begins with
abbrev pub spaces : List ℕ → ℕ
spaces line = length (take_while (λ byte. nat_eq byte 32) line)

-- a block is four spaces further in
abbrev pub further : Kind → ℕ
further colon = 4
further _ = 0

-- how far the line of the last word is indented, and further after a colon
abbrev pub indent_behind : List ℕ → Option Token → ℕ
indent_behind code None = 0
indent_behind code (Some last) = spaces (last_line (take last.start code)) + further last.kind

abbrev pub indent_of : List ℕ → Result (List Token) TokenFault → ℕ
indent_of code (Err fault) = 0
indent_of code (Ok tokens) = indent_behind code (last_word tokens)

-- a cell; the beginning of one, if nothing but the end of the text fails; or neither
abbrev pub completeness_of : List ℕ → Judged → Completeness
completeness_of code (Ok body) = Complete
completeness_of code (Err (NoParse at true)) = Incomplete (indent_of code (tokens_of code))
completeness_of code (Err _) = Invalid

-- the same in the words of the grammar
pub record IsCompleteness (code : List ℕ) (answer : Completeness) : Type 0 where
  pub judged : Judged
  pub verdict : Verdict code judged
  pub exact : answer ≡ completeness_of code judged
