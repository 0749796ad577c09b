-- What is read of some tokens of a code, as a cell or as a function alone.
use Rattle.std.specs.Prelude.{◌≡◌, ℕ, ◌+◌, ◌<◌, Bool, List, [], take, slice_get, Option, Some, None, Result, Ok}
use Rattle.py_token.specs.declared.kinds.Kind.{Kind}
use Rattle.py_token.specs.declared.kinds.Token.{Token}
use Rattle.py_token.specs.Cuts.{kinds}
use Rattle.py_token.specs.Lines.{tokens_of}
use Rattle.py_tree.specs.declared.statements.Stmt.{Stmt}
use Rattle.py_tree.specs.declared.statements.Def.{Def}
use Rattle.py_grammar.specs.States as forms
use Rattle.py_grammar.specs.States.{done}
use Rattle.py_grammar.specs.Statements.{Cell, Params, Block}
use Rattle.py_grammar.specs.Trees.{tree_cell}
use Rattle.py_grammar.specs.Alone.{alone, IsDefinition}
use Rattle.py_blocks.specs.declared.state.Reader.{Reader}
use Rattle.py_blocks.specs.Follows.{forms_run, run}
use Rattle.py_blocks.specs.Source.{most, left_of, source_of}
use Rattle.py_blocks.specs.Steps.{start}
use Rattle.py_reader.specs.declared.fault.SyntaxFault.{SyntaxFault}
use Rattle.py_reader.specs.declared.fault.ReadError.{ReadError}
use Rattle.py_reader.specs.declared.scan.Scan.{Scan}
use Rattle.py_reader.specs.declared.scan.Scan.TheVariants.{Whole, Refused}
use Rattle.py_reader.specs.Verdict.{stop_fault, deepest_of, nested}
use Rattle.py_reader.specs.DefinitionVerdict.{of_alone}
use Rattle.py_reader.specs.Gives.{Answers}

-- what is held after the first tokens, if they are read
abbrev pub read_first : Bool → List ℕ → List Token → ℕ → Option Reader
read_first alone code tokens count = run alone (left_of code tokens) most start (take count (kinds tokens))

abbrev pub IsRead : Bool → List ℕ → List Token → ℕ → Type 0
IsRead alone code tokens count = (reader : Reader) × (read_first alone code tokens count ≡ Some reader)

-- the tokens before the one with this number are read, and no more
abbrev pub StopsAt : Bool → List ℕ → List Token → ℕ → Type 0
StopsAt alone code tokens place = IsRead alone code tokens place × (read_first alone code tokens (place + 1) ≡ None)

-- the first tokens are read, or those before one of them
abbrev pub Scans : Bool → List ℕ → List Token → ℕ → Scan → Type 0
Scans alone code tokens count (Whole reader) = read_first alone code tokens count ≡ Some reader
Scans alone code tokens count (Refused place) = (place < count) × StopsAt alone code tokens place

-- why the token with this number is refused, or what is too deep before it
abbrev pub IsRefusal : Bool → List Token → ℕ → SyntaxFault → Type 0
IsRefusal alone tokens place fault = (s : forms.State) (t : Kind) → forms_run alone forms.start (take place (kinds tokens)) ≡ Some s → slice_get (kinds tokens) place ≡ Some t → stop_fault tokens place s t ≡ fault

-- the statements of the cell that the tokens are
abbrev pub GivesStatements : Bool → List ℕ → List Token → Result (List Stmt) ReadError → Type 0
GivesStatements alone code tokens result = (c : Cell) → forms_run alone forms.start (kinds tokens) ≡ Some (done c) → Answers result (nested tokens (deepest_of tokens (done c) []) (Ok (tree_cell (source_of code tokens) c)))

-- the tokens of a text are those of one function
pub record AreFunction (code : List ℕ) (tokens : List Token) : Type 0 where
  pub of_text : tokens_of code ≡ Ok tokens
  pub called : List ℕ
  pub takes : Params
  pub block : Block
  pub is_definition : IsDefinition (kinds tokens) called takes block

-- what that function is read as
abbrev pub GivesFunction : List ℕ → List Token → Result Def ReadError → Type 0
GivesFunction code tokens result = (f : AreFunction code tokens) → Answers result (of_alone code tokens (done (alone f.called f.takes f.block)))
