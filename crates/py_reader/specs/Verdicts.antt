-- What a code is read as: its tree, or the fault that it is refused for.
use Rattle.std.specs.Prelude.{◌≡◌, ℕ, ◌<◌, ◌≤◌, Bool, true, false, List, length, take, slice_get, Option, Some, None, Result, Ok, Err}
use Rattle.py_token.specs.declared.kinds.Kind.{Kind}
use Rattle.py_token.specs.declared.kinds.Kind.TheVariants as t
use Rattle.py_token.specs.declared.kinds.Token.{Token}
use Rattle.py_token.specs.declared.faults.TokenFault.{TokenFault}
use Rattle.py_token.specs.Cuts.{kinds}
use Rattle.py_token.specs.Lines.{tokens_of}
use Rattle.py_tree.specs.declared.statements.Stmt.{Stmt}
use Rattle.py_grammar.specs.declared.constructs.Construct.{Construct}
use Rattle.py_grammar.specs.Statements.{Cell, IsCell}
use Rattle.py_grammar.specs.Depth.{IsTooDeep, AreTooDeep}
use Rattle.py_grammar.specs.Outside.{Fails}
use Rattle.py_grammar.specs.Trees.{tree_cell}
use Rattle.py_blocks.specs.Source.{source_of}
use Rattle.py_reader.specs.declared.fault.SyntaxFault.{SyntaxFault}
use Rattle.py_reader.specs.declared.fault.SyntaxFault.TheVariants.{TooLong, Token as BadToken, NoParse, TooDeep, Outside}

-- the place of the token with that number
abbrev pub start_if : Option Token → ℕ
start_if None = 0
start_if (Some token) = token.start

abbrev pub start_of : List Token → ℕ → ℕ
start_of tokens number = start_if (slice_get tokens number)

abbrev pub is_end : Kind → Bool
is_end t.End = true
is_end _ = false

-- what the failing token is refused as
abbrev pub refusal : ℕ → Kind → Option Construct → SyntaxFault
refusal at kind None = NoParse at (is_end kind)
refusal at kind (Some construct) = Outside at construct

-- the tokens are a cell that is too deep at the token with this number, or those before the failing one are too deep there
pub data DeepAt : List Kind → ℕ → Type 0 where
  of_cell : {tokens : List Kind} {place : ℕ} (cell : Cell) → IsCell tokens cell → IsTooDeep cell place → DeepAt tokens place
  of_open : {tokens : List Kind} {place failing : ℕ} {construct : Option Construct} → Fails tokens failing construct → AreTooDeep IsCell (take failing tokens) place → DeepAt tokens place

-- how a code is judged: by its length, its tokens, its nesting, and then the grammar
pub data Verdict : List ℕ → Result (List Stmt) SyntaxFault → Type 0 where
  too_long : {code : List ℕ} → 262144 < length code → Verdict code (Err TooLong)
  bad_token : {code : List ℕ} {fault : TokenFault} → length code ≤ 262144 → tokens_of code ≡ Err fault → Verdict code (Err (BadToken fault))
  too_deep : {code : List ℕ} {tokens : List Token} {place : ℕ} → length code ≤ 262144 → tokens_of code ≡ Ok tokens → DeepAt (kinds tokens) place → Verdict code (Err (TooDeep (start_of tokens place)))
  refused : {code : List ℕ} {tokens : List Token} {place : ℕ} {construct : Option Construct} → length code ≤ 262144 → tokens_of code ≡ Ok tokens
      → (fails : Fails (kinds tokens) place construct) → ((at : ℕ) → AreTooDeep IsCell (take place (kinds tokens)) at → ⊥) → Verdict code (Err (refusal (start_of tokens place) fails.token construct))
  whole : {code : List ℕ} {tokens : List Token} {cell : Cell} → length code ≤ 262144 → tokens_of code ≡ Ok tokens → IsCell (kinds tokens) cell
      → ((at : ℕ) → IsTooDeep cell at → ⊥) → Verdict code (Ok (tree_cell (source_of code tokens) cell))
