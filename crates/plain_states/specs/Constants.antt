-- The texts and numbers that stand in a tree: its literals, and the names and texts of its functions, at any depth.
use Rattle.std.specs.Prelude.{List, [], ◌∷◌, ◌++◌, map, Option, Some, None}
use Rattle.py_tree.specs.declared.expressions.Expr.{Expr}
use Rattle.py_tree.specs.declared.expressions.Expr.TheOpen.{Expr-F, Relation-F, Operand-F, Pair-F}
use Rattle.py_tree.specs.declared.expressions.Expr.TheFolds.{fold-Expr, fold-Relation, fold-Operand, fold-Pair}
use Rattle.py_tree.specs.declared.expressions.Literal.{Literal}
use Rattle.py_tree.specs.declared.expressions.Literal.TheVariants as literal
use Rattle.py_tree.specs.declared.expressions.Operand.{Operand}
use Rattle.py_tree.specs.declared.expressions.Pair.{Pair}
use Rattle.py_tree.specs.declared.expressions.Relation.{Relation}
use Rattle.py_tree.specs.declared.expressions.Target.{Target}
use Rattle.py_tree.specs.declared.expressions.Target.TheVariants as target
use Rattle.py_tree.specs.declared.statements.Arm.{Arm}
use Rattle.py_tree.specs.declared.statements.Def.{Def}
use Rattle.py_tree.specs.declared.statements.Stmt.{Stmt}
use Rattle.py_tree.specs.declared.statements.Stmt.TheOpen.{Stmt-F, Arm-F, Def-F}
use Rattle.py_tree.specs.declared.statements.Stmt.TheFolds.{fold-Stmt, fold-Arm, fold-Def}

abbrev pub Constants : Type 0
Constants = List Literal

-- all of these, one after the other
abbrev pub gathered : List Constants → Constants
gathered [] = []
gathered (xs ∷ more) = xs ++ gathered more

-- ---- in an expression

abbrev pub optional : Option Constants → Constants
optional None = []
optional (Some constants) = constants

abbrev pub expression_step : Expr-F Constants Constants Constants Constants → Constants
expression_step (Expr-F.Name name) = []
expression_step (Expr-F.Literal constant) = constant ∷ []
expression_step (Expr-F.ListOf es) = gathered es
expression_step (Expr-F.TupleOf es) = gathered es
expression_step (Expr-F.DictOf pairs) = gathered pairs
expression_step (Expr-F.Conditional test first second) = test ++ (first ++ second)
expression_step (Expr-F.Or es) = gathered es
expression_step (Expr-F.And es) = gathered es
expression_step (Expr-F.Not e) = e
expression_step (Expr-F.Compare first rest) = first ++ gathered rest
expression_step (Expr-F.Sum first rest) = first ++ gathered rest
expression_step (Expr-F.Product first rest) = first ++ gathered rest
expression_step (Expr-F.Sign minus e) = e
expression_step (Expr-F.Call callee args) = callee ++ gathered args
expression_step (Expr-F.Index e at) = e ++ at
expression_step (Expr-F.Slice e from to) = e ++ (optional from ++ optional to)
expression_step (Expr-F.Method on name args) = on ++ gathered args

abbrev pub relation_step : Relation-F Constants Constants Constants Constants → Constants
relation_step (Relation-F.With op e) = e
relation_step Relation-F.IsNone = []
relation_step Relation-F.IsNotNone = []

abbrev pub operand_step : Operand-F Constants Constants Constants Constants → Constants
operand_step operand = operand.value

abbrev pub pair_step : Pair-F Constants Constants Constants Constants → Constants
pair_step pair = pair.key ++ pair.value

unfoldable pub constants_of : Expr → Constants
constants_of = fold-Expr Constants Constants Constants Constants expression_step relation_step operand_step pair_step

unfoldable pub constants_of_relation : Relation → Constants
constants_of_relation = fold-Relation Constants Constants Constants Constants expression_step relation_step operand_step pair_step

unfoldable pub constants_of_operand : Operand → Constants
constants_of_operand = fold-Operand Constants Constants Constants Constants expression_step relation_step operand_step pair_step

unfoldable pub constants_of_pair : Pair → Constants
constants_of_pair = fold-Pair Constants Constants Constants Constants expression_step relation_step operand_step pair_step

-- ---- in a statement

abbrev pub if_constants : Option Expr → Constants
if_constants None = []
if_constants (Some e) = constants_of e

abbrev pub constants_at : Target → Constants
constants_at (target.Name name) = []
constants_at (target.Item on at) = constants_of on ++ constants_of at

abbrev pub constants_at_all : List Target → Constants
constants_at_all targets = gathered (map constants_at targets)

abbrev pub statement_step : Stmt-F Constants Constants Constants → Constants
statement_step Stmt-F.Pass = []
statement_step Stmt-F.Break = []
statement_step Stmt-F.Continue = []
statement_step (Stmt-F.Return e) = if_constants e
statement_step (Stmt-F.Global names) = []
statement_step (Stmt-F.Delete into) = constants_at into
statement_step (Stmt-F.Assign targets comma e) = constants_at_all targets ++ constants_of e
statement_step (Stmt-F.Augment into op e) = constants_at into ++ constants_of e
statement_step (Stmt-F.Expression e) = constants_of e
statement_step (Stmt-F.If arms other) = gathered arms ++ gathered other
statement_step (Stmt-F.While test body) = constants_of test ++ gathered body
statement_step (Stmt-F.For names comma source body) = constants_of source ++ gathered body
statement_step (Stmt-F.Function def) = def

abbrev pub arm_step : Arm-F Constants Constants Constants → Constants
arm_step arm = constants_of arm.test ++ gathered arm.body

abbrev pub def_step : Def-F Constants Constants Constants → Constants
def_step def = literal.Text def.name ∷ (literal.Text def.source ∷ gathered def.body)

unfoldable pub constants_by : Stmt → Constants
constants_by = fold-Stmt Constants Constants Constants statement_step arm_step def_step

unfoldable pub constants_by_arm : Arm → Constants
constants_by_arm = fold-Arm Constants Constants Constants statement_step arm_step def_step

unfoldable pub constants_by_def : Def → Constants
constants_by_def = fold-Def Constants Constants Constants statement_step arm_step def_step

abbrev pub constants_in : List Stmt → Constants
constants_in body = gathered (map constants_by body)
