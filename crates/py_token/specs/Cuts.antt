-- Tokens by their kinds: words, open blocks and begun lines.
use Rattle.std.specs.Prelude.{◌≡◌, ℕ, zero, suc, pred, Bool, true, false, List, [], ◌∷◌, ◌++◌, length, map, Ok}
use Rattle.std.specs.List.{AllByRecursion}
use Rattle.py_token.specs.Lines.{tokens_of}
use Rattle.py_token.specs.declared.kinds.Kind.{Kind}
use Rattle.py_token.specs.declared.kinds.Kind.TheVariants.{Newline, Indent, Dedent, End}
use Rattle.py_token.specs.declared.kinds.Token.{Token}

abbrev pub kinds : List Token → List Kind
kinds tokens = map (λ token. token.kind) tokens

-- a token that characters of a line spell
abbrev pub is_word : Kind → Bool
is_word Newline = false
is_word Indent = false
is_word Dedent = false
is_word End = false
is_word _ = true

-- how many blocks are open after those tokens, if `n` are before them
abbrev pub level : ℕ → List Kind → ℕ
level n [] = n
level n (Indent ∷ ks) = level (suc n) ks
level n (Dedent ∷ ks) = level (pred n) ks
level n (k ∷ ks) = level n ks

-- whether a line begins after those tokens, if one did or didn't before them
abbrev pub begins_line : Bool → List Kind → Bool
begins_line b [] = b
begins_line b (Newline ∷ ks) = begins_line true ks
begins_line b (Indent ∷ ks) = begins_line b ks
begins_line b (Dedent ∷ ks) = begins_line b ks
begins_line b (k ∷ ks) = begins_line false ks

-- that many blocks end
abbrev pub dedents : ℕ → List Kind → List Kind
dedents zero rest = rest
dedents (suc n) rest = Dedent ∷ dedents n rest

-- The bytes have tokens of these kinds, and after them the line and each block that is open end. The first token begins at
-- the first byte, and the last word ends with the last byte.
pub record AreCut (bytes : List ℕ) (spelled : List Kind) : Type 0 where
  pub tokens : List Token
  pub are_tokens : tokens_of bytes ≡ Ok tokens
  pub are_kinds : kinds tokens ≡ spelled ++ Newline ∷ dedents (level 0 spelled) (End ∷ [])
  pub first : Token
  pub others : List Token
  pub begins : tokens ≡ first ∷ others
  pub at_start : first.start ≡ 0
  pub words : List Token
  pub last : Token
  pub layout : List Token
  pub ends : tokens ≡ words ++ last ∷ layout
  pub is_last : is_word last.kind ≡ true
  pub none_after : AllByRecursion (λ token. is_word token.kind ≡ false) layout
  pub at_end : last.end ≡ length bytes
