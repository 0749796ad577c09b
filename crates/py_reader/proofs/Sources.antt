-- The texts of the functions of a cell are all bytes of their tokens.
use Rattle.std.proofs.Common.{◌≡◌, ℕ, List, [], ◌∷◌, ◌++◌, length, Some, None, Result, Ok, Err, refl, ap, ◌∙◌, sym, subst, IsUtf8, IfOk}
use Rattle.py_token.proofs.Covers.{covers}
use Rattle.py_tree.specs.declared.statements.Stmt.{Stmt}
use Rattle.py_tree.specs.declared.statements.Tree.{Tree}
use Rattle.py_grammar.specs.Statements.{Cell, Statements, statements_one, statements_more, spell_statement, spell_statements}
use Rattle.py_grammar.specs.Trees.{Source, tree_statement, tree_top, tree_cell}
use Rattle.py_blocks.specs.Source.{source_of}
use Rattle.py_reader.specs.declared.fault.ReadError.{ReadError}
use Rattle.py_reader.specs.Gives as gives
use Rattle.py_reader.specs.Verdicts.{Verdict, whole}
use Rattle.py_reader.specs.Verdict.{verdict}
use Rattle.py_reader.specs.Sources.{bytes_of, HasSources}
use Rattle.py_reader.proofs.Boundaries.{whole_text}
use Rattle.py_reader.proofs.Meant.{means}

top-same : (f g : Source) → ((from to : ℕ) → f from to ≡ g from to) → (xs : Statements) → tree_top f xs ≡ tree_top g xs
top-same f g same (statements_one x) = ap (λ source. tree_statement source x ∷ []) (same 0 _)
top-same f g same (statements_more xs x) =
    ap (λ rest. rest ++ tree_statement (f (length (spell_statements xs [])) (length (spell_statements xs (spell_statement x [])))) x ∷ []) (top-same f g same xs)
    ∙ ap (λ source. tree_top g xs ++ tree_statement source x ∷ []) (same _ _)

cell-same : (f g : Source) → ((from to : ℕ) → f from to ≡ g from to) → (c : Cell) → tree_cell f c ≡ tree_cell g c
cell-same f g same None = refl
cell-same f g same (Some xs) = top-same f g same xs

of_verdict : (code : List ℕ) (body : List Stmt) → IsUtf8 code → Verdict code (Ok body) → HasSources code body
of_verdict _ _ utf8 (whole {code} {tokens} {cell} l e is shallow) = record {
  tokens = tokens;
  are_tokens = e;
  cell = cell;
  is_cell = is;
  is_tree = cell-same (bytes_of code tokens) (source_of code tokens) (λ from to. sym (whole_text code tokens from to utf8 (covers code tokens e))) cell;
}

pub sources : (code : List ℕ) (result : Result Tree ReadError) → IsUtf8 code → gives.Gives result (verdict code) → IfOk result (λ tree. HasSources code tree.body)
sources code (Err e) utf8 g = tt
sources code (Ok tree) utf8 g = of_verdict code tree.body utf8 (subst (Verdict code) g (means code))
