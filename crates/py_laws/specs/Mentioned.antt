-- The names in a tree: those that it looks up, binds, deletes and declares, and those of functions, parameters and methods, at
-- any depth.
use Rattle.std.specs.Prelude.{ℕ, Bool, IsTrue, List, [], ◌∷◌, ◌++◌, map, All, Option, Some, None}
use Rattle.py_tree.specs.declared.expressions.Expr.{Expr}
use Rattle.py_tree.specs.declared.expressions.Expr.TheOpen.{Expr-F, Relation-F, Operand-F, Pair-F}
use Rattle.py_tree.specs.declared.expressions.Expr.TheFolds.{fold-Expr, fold-Relation, fold-Operand, fold-Pair}
use Rattle.py_tree.specs.declared.expressions.Operand.{Operand}
use Rattle.py_tree.specs.declared.expressions.Pair.{Pair}
use Rattle.py_tree.specs.declared.expressions.Relation.{Relation}
use Rattle.py_tree.specs.declared.expressions.Target.{Target}
use Rattle.py_tree.specs.declared.expressions.Target.TheVariants as target
use Rattle.py_tree.specs.declared.statements.Arm.{Arm}
use Rattle.py_tree.specs.declared.statements.Def.{Def}
use Rattle.py_tree.specs.declared.statements.Stmt.{Stmt}
use Rattle.py_tree.specs.declared.statements.Stmt.TheOpen.{Stmt-F, Arm-F, Def-F}
use Rattle.py_tree.specs.declared.statements.Stmt.TheFolds.{fold-Stmt, fold-Arm, fold-Def}
use Rattle.py_tree.specs.Locals.{Names, joined}
use Rattle.py_heap.specs.declared.heap.Object.{Object}
use Rattle.py_heap.specs.declared.heap.Object.TheVariants as object
use Rattle.py_heap.specs.declared.state.State.{State}

-- ---- in an expression

abbrev pub optional : Option Names → Names
optional None = []
optional (Some names) = names

abbrev pub expression_step : Expr-F Names Names Names Names → Names
expression_step (Expr-F.Name name) = name ∷ []
expression_step (Expr-F.Literal constant) = []
expression_step (Expr-F.ListOf es) = joined es
expression_step (Expr-F.TupleOf es) = joined es
expression_step (Expr-F.DictOf pairs) = joined pairs
expression_step (Expr-F.Conditional test first second) = test ++ (first ++ second)
expression_step (Expr-F.Or es) = joined es
expression_step (Expr-F.And es) = joined es
expression_step (Expr-F.Not e) = e
expression_step (Expr-F.Compare first rest) = first ++ joined rest
expression_step (Expr-F.Sum first rest) = first ++ joined rest
expression_step (Expr-F.Product first rest) = first ++ joined rest
expression_step (Expr-F.Sign minus e) = e
expression_step (Expr-F.Call callee args) = callee ++ joined args
expression_step (Expr-F.Index e at) = e ++ at
expression_step (Expr-F.Slice e from to) = e ++ (optional from ++ optional to)
expression_step (Expr-F.Method on name args) = name ∷ (on ++ joined args)

abbrev pub relation_step : Relation-F Names Names Names Names → Names
relation_step (Relation-F.With op e) = e
relation_step Relation-F.IsNone = []
relation_step Relation-F.IsNotNone = []

abbrev pub operand_step : Operand-F Names Names Names Names → Names
operand_step operand = operand.value

abbrev pub pair_step : Pair-F Names Names Names Names → Names
pair_step pair = pair.key ++ pair.value

unfoldable pub names_of : Expr → Names
names_of = fold-Expr Names Names Names Names expression_step relation_step operand_step pair_step

unfoldable pub names_of_relation : Relation → Names
names_of_relation = fold-Relation Names Names Names Names expression_step relation_step operand_step pair_step

unfoldable pub names_of_operand : Operand → Names
names_of_operand = fold-Operand Names Names Names Names expression_step relation_step operand_step pair_step

unfoldable pub names_of_pair : Pair → Names
names_of_pair = fold-Pair Names Names Names Names expression_step relation_step operand_step pair_step

-- ---- in a statement

abbrev pub if_names : Option Expr → Names
if_names None = []
if_names (Some e) = names_of e

abbrev pub names_at : Target → Names
names_at (target.Name name) = name ∷ []
names_at (target.Item on at) = names_of on ++ names_of at

abbrev pub names_at_all : List Target → Names
names_at_all targets = joined (map names_at targets)

abbrev pub statement_step : Stmt-F Names Names Names → Names
statement_step Stmt-F.Pass = []
statement_step Stmt-F.Break = []
statement_step Stmt-F.Continue = []
statement_step (Stmt-F.Return e) = if_names e
statement_step (Stmt-F.Global names) = names
statement_step (Stmt-F.Delete into) = names_at into
statement_step (Stmt-F.Assign targets comma e) = names_at_all targets ++ names_of e
statement_step (Stmt-F.Augment into op e) = names_at into ++ names_of e
statement_step (Stmt-F.Expression e) = names_of e
statement_step (Stmt-F.If arms other) = joined arms ++ joined other
statement_step (Stmt-F.While test body) = names_of test ++ joined body
statement_step (Stmt-F.For names comma source body) = names ++ (names_of source ++ joined body)
statement_step (Stmt-F.Function def) = def

abbrev pub arm_step : Arm-F Names Names Names → Names
arm_step arm = names_of arm.test ++ joined arm.body

abbrev pub def_step : Def-F Names Names Names → Names
def_step def = def.name ∷ (def.params ++ joined def.body)

unfoldable pub names_by : Stmt → Names
names_by = fold-Stmt Names Names Names statement_step arm_step def_step

unfoldable pub names_by_arm : Arm → Names
names_by_arm = fold-Arm Names Names Names statement_step arm_step def_step

unfoldable pub names_by_def : Def → Names
names_by_def = fold-Def Names Names Names statement_step arm_step def_step

abbrev pub names_in : List Stmt → Names
names_in body = joined (map names_by body)

-- ---- those that pass a test

abbrev pub AllPass : (List ℕ → Bool) → Names → Type 0
AllPass test names = All (λ name. IsTrue (test name)) names

abbrev pub NamesPass : (List ℕ → Bool) → Object → Type 0
NamesPass test (object.Function def) = AllPass test (names_by_def def)
NamesPass test _ = Unit {0}

-- the names in the functions of a state
abbrev pub FunctionsPass : (List ℕ → Bool) → State → Type 0
FunctionsPass test s = All (NamesPass test) s.heap
