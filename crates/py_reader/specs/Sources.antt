-- The texts of the functions of a cell.
use Rattle.std.specs.Prelude.{◌≡◌, ℕ, List, [], ◌∷◌, slice_range, Option, Some, None, Ok}
use Rattle.py_token.specs.declared.kinds.Token.{Token}
use Rattle.py_token.specs.Cuts.{kinds}
use Rattle.py_token.specs.Lines.{tokens_of}
use Rattle.py_tree.specs.declared.statements.Stmt.{Stmt}
use Rattle.py_grammar.specs.Statements.{Cell, IsCell}
use Rattle.py_grammar.specs.Trees.{tree_cell}
use Rattle.py_blocks.specs.Source.{last_word}

-- all bytes from there to the end of the last of the tokens that is no layout
abbrev pub bytes_up_to : List ℕ → ℕ → Option Token → List ℕ
bytes_up_to code start None = []
bytes_up_to code start (Some last) = slice_range code start last.end

-- all bytes from the start of the first of the tokens
abbrev pub bytes_from : List ℕ → List Token → List ℕ
bytes_from code [] = []
bytes_from code (first ∷ tokens) = bytes_up_to code first.start (last_word (first ∷ tokens))

-- all bytes that the tokens from one number up to another span
abbrev pub bytes_of : List ℕ → List Token → ℕ → ℕ → List ℕ
bytes_of code tokens from to = bytes_from code (slice_range tokens from to)

-- the body is that of the code's one cell, and the text of each of its functions is all bytes that its tokens span
pub record HasSources (code : List ℕ) (body : List Stmt) : Type 0 where
  pub tokens : List Token
  pub are_tokens : tokens_of code ≡ Ok tokens
  pub cell : Cell
  pub is_cell : IsCell (kinds tokens) cell
  pub is_tree : tree_cell (bytes_of code tokens) cell ≡ body
