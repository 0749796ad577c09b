-- What a statement that is an expression is at its top.
use Rattle.std.proofs.Common.{◌≡◌, sym, ap, ◌∙◌}
use Rattle.py_tree.specs.declared.expressions.Expr.{Expr}
use Rattle.py_tree.specs.declared.statements.Stmt.TheOpen.{Stmt-F}
use Rattle.py_tree.specs.declared.statements.Stmt.TheViews.{out-Stmt, out-roll-Stmt}
use Rattle.py_tree.specs.declared.statements.Stmt.TheVariants as s

pub out-show : (value : Expr) → out-Stmt (s.Expression value) ≡ Stmt-F.Expression value
out-show value = ap out-Stmt (sym (s.rolls-Expression value)) ∙ out-roll-Stmt (Stmt-F.Expression value)
