-- Each name in the tree of a code, and of a function alone, is one that a program may bind.
use Rattle.std.proofs.Common.{◌≡◌, ℕ, List, Ok, subst}
use Rattle.py_names.specs.Names.{is_variable}
use Rattle.py_tree.specs.declared.statements.Def.{Def}
use Rattle.py_tree.specs.declared.statements.Stmt.{Stmt}
use Rattle.py_blocks.specs.Source.{source_of}
use Rattle.py_laws.specs.Mentioned.{names_by_def, names_in, AllPass}
use Rattle.py_reader.specs.Verdicts.{Verdict}
use Rattle.py_reader.specs.Verdicts as cells
use Rattle.py_reader.specs.Verdict.{verdict}
use Rattle.py_reader.specs.Definitions.{DefinitionVerdict}
use Rattle.py_reader.specs.Definitions as functions
use Rattle.py_reader.specs.DefinitionVerdict.{verdict_alone}
use Rattle.py_reader.proofs.Meant.{means}
use Rattle.py_reader.proofs.MeantAlone as alone
use Rattle.reader_laws.proofs.Tokens.{cell_names, function_names}

judged : (code : List ℕ) (body : List Stmt) → Verdict code (Ok body) → AllPass is_variable (names_in body)
judged _ _ (cells.whole {code} {tokens} {cell} l e is shallow) = cell_names code tokens (source_of code tokens) cell e is

pub in_cell : (code : List ℕ) (body : List Stmt) → verdict code ≡ Ok body → AllPass is_variable (names_in body)
in_cell code body e = judged code body (subst (Verdict code) e (means code))

judged_alone : (code : List ℕ) (def : Def) → DefinitionVerdict code (Ok def) → AllPass is_variable (names_by_def def)
judged_alone _ _ (functions.whole {code} {tokens} {called} {takes} {block} l e is start shallow end) = function_names code code tokens called takes block e is

pub in_function : (code : List ℕ) (def : Def) → verdict_alone code ≡ Ok def → AllPass is_variable (names_by_def def)
in_function code def e = judged_alone code def (subst (DefinitionVerdict code) e (alone.means code))
