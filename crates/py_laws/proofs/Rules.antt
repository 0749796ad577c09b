-- What a run may look up, bind, add, evaluate and execute, so that its state and its marks stay of a kind.
use Rattle.std.proofs.Common.{ℕ, List, [], ◌∷◌, Option, Some, None}
use Rattle.std.specs.List.{AllByRecursion}
use Rattle.py_tree.specs.declared.expressions.Expr.{Expr, out-Expr}
use Rattle.py_tree.specs.declared.expressions.Expr.TheOpen.{Expr-F, Relation-F}
use Rattle.py_tree.specs.declared.expressions.Operand.{Operand, out-Operand}
use Rattle.py_tree.specs.declared.expressions.Pair.{Pair, out-Pair}
use Rattle.py_tree.specs.declared.expressions.Relation.{Relation, out-Relation}
use Rattle.py_tree.specs.declared.expressions.Target.{Target}
use Rattle.py_tree.specs.declared.expressions.Target.TheVariants as target
use Rattle.py_tree.specs.declared.statements.Arm.{Arm, out-Arm}
use Rattle.py_tree.specs.declared.statements.Def.{Def}
use Rattle.py_tree.specs.declared.statements.Stmt.{Stmt, out-Stmt}
use Rattle.py_tree.specs.declared.statements.Stmt.TheOpen.{Stmt-F}
use Rattle.py_value.specs.declared.value.Value.{Value}
use Rattle.py_heap.specs.declared.heap.Object.{Object}
use Rattle.py_heap.specs.declared.heap.Object.TheVariants as object
use Rattle.py_heap.specs.declared.heap.SequenceKind.{SequenceKind}
use Rattle.py_heap.specs.Sequences.{sequence}
use Rattle.py_machine.specs.declared.frame.Change.{Change}
use Rattle.py_machine.specs.Changes.{changed}
use Rattle.py_machine.specs.Runs.{Name}

abbrev pub IfThere : (Object → Type 0) → Option Object → Type 0
IfThere Fit None = Unit {0}
IfThere Fit (Some new) = Fit new

-- ---- expressions

abbrev pub IfEvals : (Expr → Type 0) → Option Expr → Type 0
IfEvals Evals None = Unit {0}
IfEvals Evals (Some e) = Evals e

abbrev pub EvalsRight : (Expr → Type 0) → Relation-F Expr Relation Operand Pair → Type 0
EvalsRight Evals (Relation-F.With o e) = Evals e
EvalsRight Evals Relation-F.IsNone = Unit {0}
EvalsRight Evals Relation-F.IsNotNone = Unit {0}

-- the name that it looks up may be looked up, and each expression in it may be evaluated
abbrev pub Looks : (Name → Type 0) → (Expr → Type 0) → Expr-F Expr Relation Operand Pair → Type 0
Looks Known Evals (Expr-F.Name name) = Known name
Looks Known Evals (Expr-F.Literal constant) = Unit {0}
Looks Known Evals (Expr-F.ListOf es) = AllByRecursion Evals es
Looks Known Evals (Expr-F.TupleOf es) = AllByRecursion Evals es
Looks Known Evals (Expr-F.Conditional test first second) = Evals test × Evals first × Evals second
Looks Known Evals (Expr-F.Or es) = AllByRecursion Evals es
Looks Known Evals (Expr-F.And es) = AllByRecursion Evals es
Looks Known Evals (Expr-F.Not e) = Evals e
Looks Known Evals (Expr-F.Compare first rest) = Evals first × AllByRecursion (λ r. EvalsRight Evals (out-Relation r)) rest
Looks Known Evals (Expr-F.Sum first rest) = Evals first × AllByRecursion (λ o. Evals (out-Operand o).value) rest
Looks Known Evals (Expr-F.Product first rest) = Evals first × AllByRecursion (λ o. Evals (out-Operand o).value) rest
Looks Known Evals (Expr-F.Sign minus e) = Evals e
Looks Known Evals (Expr-F.Call callee args) = Evals callee × AllByRecursion Evals args
Looks Known Evals (Expr-F.Method on name args) = Evals on × AllByRecursion Evals args
Looks Known Evals (Expr-F.DictOf pairs) = AllByRecursion (λ p. Evals (out-Pair p).key × Evals (out-Pair p).value) pairs
Looks Known Evals (Expr-F.Index e at) = Evals e × Evals at
Looks Known Evals (Expr-F.Slice e from to) = Evals e × IfEvals Evals from × IfEvals Evals to

-- ---- statements

abbrev pub BindsAt : (Name → Type 0) → (Expr → Type 0) → Target → Type 0
BindsAt Binds Evals (target.Name name) = Binds name
BindsAt Binds Evals (target.Item on at) = Evals on × Evals at

-- its expressions may be evaluated and the statements of its blocks executed, the names that it binds may be bound and the one
-- that it deletes deleted, and the function that it defines may be added
abbrev pub Opens : (Name → Type 0) → (Name → Type 0) → (Object → Type 0) → (Expr → Type 0) → (Stmt → Type 0) → Stmt-F Stmt Arm Def → Type 0
Opens Binds Known Fit Evals Runs (Stmt-F.Return e) = IfEvals Evals e
Opens Binds Known Fit Evals Runs (Stmt-F.Delete into) = BindsAt Known Evals into
Opens Binds Known Fit Evals Runs (Stmt-F.Assign targets comma e) = AllByRecursion (BindsAt Binds Evals) targets × Evals e
Opens Binds Known Fit Evals Runs (Stmt-F.Augment into o e) = BindsAt Binds Evals into × Evals e
Opens Binds Known Fit Evals Runs (Stmt-F.Expression e) = Evals e
Opens Binds Known Fit Evals Runs (Stmt-F.If arms other) = AllByRecursion (λ arm. Evals (out-Arm arm).test × AllByRecursion Runs (out-Arm arm).body) arms × AllByRecursion Runs other
Opens Binds Known Fit Evals Runs (Stmt-F.While test body) = Evals test × AllByRecursion Runs body
Opens Binds Known Fit Evals Runs (Stmt-F.For names comma source body) = AllByRecursion Binds names × Evals source × AllByRecursion Runs body
Opens Binds Known Fit Evals Runs (Stmt-F.Function def) = Binds def.name × Fit (object.Function def)
Opens Binds Known Fit Evals Runs _ = Unit {0}

pub record Rules : Type 1 where
  -- which names may have a value, and which may be looked up, bound and deleted
  pub may : Name → Type 0
  pub known : Name → Type 0
  pub fit : Object → Type 0
  pub evals : Expr → Type 0
  pub runs : Stmt → Type 0
  -- what a program adds is fit, but for functions; and so is what a change makes of an object that is fit
  pub sequence_fit : (kind : SequenceKind) (items : List Value) → fit (sequence kind items)
  pub dict_fit : fit (object.Dict [])
  pub handle_fit : (name : List ℕ) (uses : ℕ) → fit (object.Handle name uses)
  pub change_fit : (p : Change) (o : Object) → fit o → IfThere fit (changed p o)
  pub looks : (e : Expr) → evals e → Looks known evals (out-Expr e)
  pub opens : (s : Stmt) → runs s → Opens (λ name. may name × known name) known fit evals runs (out-Stmt s)
  pub bodies : (def : Def) → fit (object.Function def) → AllByRecursion runs def.body

-- ---- the rules that all keep

abbrev pub NameAny : Name → Type 0
NameAny name = Unit {0}

abbrev pub BoundAny : Name → Type 0
BoundAny name = NameAny name × NameAny name

abbrev pub ObjectAny : Object → Type 0
ObjectAny o = Unit {0}

abbrev pub ExprAny : Expr → Type 0
ExprAny e = Unit {0}

abbrev pub StmtAny : Stmt → Type 0
StmtAny s = Unit {0}

pub any_values : (es : List Expr) → AllByRecursion ExprAny es
any_values [] = tt
any_values (e ∷ es) = (tt, any_values es)

pub any_if : (e : Option Expr) → IfEvals ExprAny e
any_if None = tt
any_if (Some e) = tt

any_right : (r : Relation-F Expr Relation Operand Pair) → EvalsRight ExprAny r
any_right (Relation-F.With o e) = tt
any_right Relation-F.IsNone = tt
any_right Relation-F.IsNotNone = tt

any_rights : (rs : List Relation) → AllByRecursion (λ r. EvalsRight ExprAny (out-Relation r)) rs
any_rights [] = tt
any_rights (r ∷ rs) = (any_right (out-Relation r), any_rights rs)

any_operands : (os : List Operand) → AllByRecursion (λ o. ExprAny (out-Operand o).value) os
any_operands [] = tt
any_operands (o ∷ os) = (tt, any_operands os)

any_pairs : (ps : List Pair) → AllByRecursion (λ p. ExprAny (out-Pair p).key × ExprAny (out-Pair p).value) ps
any_pairs [] = tt
any_pairs (p ∷ ps) = ((tt, tt), any_pairs ps)

pub any_looks : (e : Expr-F Expr Relation Operand Pair) → Looks NameAny ExprAny e
any_looks (Expr-F.Name name) = tt
any_looks (Expr-F.Literal constant) = tt
any_looks (Expr-F.ListOf es) = any_values es
any_looks (Expr-F.TupleOf es) = any_values es
any_looks (Expr-F.Conditional test first second) = (tt, tt, tt)
any_looks (Expr-F.Or es) = any_values es
any_looks (Expr-F.And es) = any_values es
any_looks (Expr-F.Not e) = tt
any_looks (Expr-F.Compare first rest) = (tt, any_rights rest)
any_looks (Expr-F.Sum first rest) = (tt, any_operands rest)
any_looks (Expr-F.Product first rest) = (tt, any_operands rest)
any_looks (Expr-F.Sign minus e) = tt
any_looks (Expr-F.Call callee args) = (tt, any_values args)
any_looks (Expr-F.Method on name args) = (tt, any_values args)
any_looks (Expr-F.DictOf pairs) = any_pairs pairs
any_looks (Expr-F.Index e at) = (tt, tt)
any_looks (Expr-F.Slice e from to) = (tt, any_if from, any_if to)

pub any_body : (body : List Stmt) → AllByRecursion StmtAny body
any_body [] = tt
any_body (s ∷ body) = (tt, any_body body)

any_arms : (arms : List Arm) → AllByRecursion (λ arm. ExprAny (out-Arm arm).test × AllByRecursion StmtAny (out-Arm arm).body) arms
any_arms [] = tt
any_arms (arm ∷ arms) = ((tt, any_body (out-Arm arm).body), any_arms arms)

pub any_change : (new : Option Object) → IfThere ObjectAny new
any_change None = tt
any_change (Some new) = tt

any_target : (into : Target) → BindsAt BoundAny ExprAny into
any_target (target.Name name) = (tt, tt)
any_target (target.Item on at) = (tt, tt)

any_targets : (targets : List Target) → AllByRecursion (BindsAt BoundAny ExprAny) targets
any_targets [] = tt
any_targets (into ∷ targets) = (any_target into, any_targets targets)

any_names : (names : List Name) → AllByRecursion BoundAny names
any_names [] = tt
any_names (name ∷ names) = ((tt, tt), any_names names)

pub any_deleted : (into : Target) → BindsAt NameAny ExprAny into
any_deleted (target.Name name) = tt
any_deleted (target.Item on at) = (tt, tt)

pub any_opens : (s : Stmt-F Stmt Arm Def) → Opens BoundAny NameAny ObjectAny ExprAny StmtAny s
any_opens (Stmt-F.Return e) = any_if e
any_opens (Stmt-F.Delete into) = any_deleted into
any_opens (Stmt-F.Assign targets comma e) = (any_targets targets, tt)
any_opens (Stmt-F.Augment into o e) = (any_target into, tt)
any_opens (Stmt-F.Expression e) = tt
any_opens (Stmt-F.If arms other) = (any_arms arms, any_body other)
any_opens (Stmt-F.While test body) = (tt, any_body body)
any_opens (Stmt-F.For names comma source body) = (any_names names, tt, any_body body)
any_opens (Stmt-F.Function def) = ((tt, tt), tt)
any_opens _ = tt

abbrev pub no_rules : Rules
no_rules = record {
  may = NameAny;
  known = NameAny;
  fit = ObjectAny;
  evals = ExprAny;
  runs = StmtAny;
  sequence_fit = λ kind items. tt;
  dict_fit = tt;
  handle_fit = λ name uses. tt;
  change_fit = λ p o h. any_change (changed p o);
  looks = λ e h. any_looks (out-Expr e);
  opens = λ s h. any_opens (out-Stmt s);
  bodies = λ def h. any_body def.body;
}
