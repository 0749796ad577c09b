-- The text of some tokens of a code.
use Rattle.std.specs.Prelude.{ℕ, Bool, true, false, not, ◌-◌, List, [], ◌∷◌, reverse, find, slice_range, Option, Some, None, if◌then◌else◌}
use Rattle.std.specs.Str.{is_utf8}
use Rattle.py_token.specs.declared.kinds.Kind.{Kind}
use Rattle.py_token.specs.declared.kinds.Kind.TheVariants as t
use Rattle.py_token.specs.declared.kinds.Token.{Token}

-- a token that no characters of a line spell
abbrev pub is_layout : Kind → Bool
is_layout t.Newline = true
is_layout t.Indent = true
is_layout t.Dedent = true
is_layout t.End = true
is_layout _ = false

-- the last of the tokens that is no layout
abbrev pub last_word : List Token → Option Token
last_word tokens = find (λ token. not (is_layout token.kind)) (reverse tokens)

-- those bytes, if they are a text
abbrev pub text_of : List ℕ → List ℕ
text_of bytes = if is_utf8 bytes then bytes else []

-- the text from there to the end of the last of the tokens that is no layout
abbrev pub text_up_to : List ℕ → ℕ → Option Token → List ℕ
text_up_to code start None = []
text_up_to code start (Some last) = text_of (slice_range code start last.end)

-- the text of the tokens, from the start of the first of them
abbrev pub text_from : List ℕ → List Token → List ℕ
text_from code [] = []
text_from code (first ∷ tokens) = text_up_to code first.start (last_word (first ∷ tokens))

-- the text of the tokens from one number up to another
abbrev pub source_of : List ℕ → List Token → ℕ → ℕ → List ℕ
source_of code tokens from to = text_from code (slice_range tokens from to)

-- the place of the first token; each of the others has one less than the one before
abbrev pub most : ℕ
most = 9223372036854775808

-- the text of the tokens from one place up to another
abbrev pub left_of : List ℕ → List Token → ℕ → ℕ → List ℕ
left_of code tokens from to = source_of code tokens (most - from) (most - to)
