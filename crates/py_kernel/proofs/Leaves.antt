-- What an expression that is a name or a constant is at its top.
use Rattle.std.proofs.Common.{◌≡◌, sym, ap, ◌∙◌}
use Rattle.py_machine.specs.Runs.{Name}
use Rattle.py_tree.specs.declared.expressions.Literal.{Literal}
use Rattle.py_tree.specs.declared.expressions.Expr.TheOpen.{Expr-F}
use Rattle.py_tree.specs.declared.expressions.Expr.TheViews.{out-Expr, out-roll-Expr}
use Rattle.py_tree.specs.declared.expressions.Expr.TheVariants as e

pub out-name : (name : Name) → out-Expr (e.Name name) ≡ Expr-F.Name name
out-name name = ap out-Expr (sym (e.rolls-Name name)) ∙ out-roll-Expr (Expr-F.Name name)

pub out-literal : (literal : Literal) → out-Expr (e.Literal literal) ≡ Expr-F.Literal literal
out-literal literal = ap out-Expr (sym (e.rolls-Literal literal)) ∙ out-roll-Expr (Expr-F.Literal literal)
