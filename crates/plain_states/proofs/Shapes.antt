-- What is in a tree that is made of smaller ones.
use Rattle.std.proofs.Common.{List, [], ◌∷◌, ◌++◌, map, Option, Some, None, subst}
use Rattle.std.specs.List.{AllByRecursion}
use Rattle.py_tree.specs.declared.expressions.Expr.{Expr, out-Expr}
use Rattle.py_tree.specs.declared.expressions.Expr.TheOpen.{Expr-F, Relation-F}
use Rattle.py_tree.specs.declared.expressions.Expr.TheFolds.{map-Expr, map-Relation, fold_out-Expr, fold_out-Relation, fold_out-Operand, fold_out-Pair}
use Rattle.py_tree.specs.declared.expressions.Operand.{Operand, out-Operand}
use Rattle.py_tree.specs.declared.expressions.Pair.{Pair, out-Pair}
use Rattle.py_tree.specs.declared.expressions.Relation.{Relation, out-Relation}
use Rattle.py_tree.specs.declared.expressions.Target.{Target}
use Rattle.py_tree.specs.declared.expressions.Target.TheVariants as target
use Rattle.py_tree.specs.declared.statements.Arm.{Arm, out-Arm}
use Rattle.py_tree.specs.declared.statements.Def.{Def, out-Def}
use Rattle.py_tree.specs.declared.statements.Stmt.{Stmt, out-Stmt}
use Rattle.py_tree.specs.declared.statements.Stmt.TheOpen.{Stmt-F}
use Rattle.py_tree.specs.declared.statements.Stmt.TheFolds.{map-Stmt, fold_out-Stmt, fold_out-Arm, fold_out-Def}
use Rattle.part_bytes.specs.Plain.{IsText}
use Rattle.plain_states.specs.Constants.{Constants, gathered, expression_step, relation_step, operand_step, pair_step, constants_of, constants_of_relation, constants_of_operand, constants_of_pair, if_constants, constants_at, constants_at_all, statement_step, arm_step, def_step, constants_by, constants_by_arm, constants_by_def, constants_in}
use Rattle.plain_states.specs.Plain.{IsPlainLiteral, ArePlain}

-- if each element of a list has P, each has what follows from P
each_more : {X : Type 0} (P Q : X → Type 0) → ((x : X) → P x → Q x) → (xs : List X) → AllByRecursion P xs → AllByRecursion Q xs
each_more P Q f [] h = tt
each_more P Q f (x ∷ xs) h = (f x h.0, each_more P Q f xs h.1)

-- ---- pieces of a list of constants

parts : (xs ys : Constants) → ArePlain (xs ++ ys) → ArePlain xs × ArePlain ys
parts [] ys h = (tt, h)
parts (x ∷ xs) ys h = let w = parts xs ys h.1 in ((h.0, w.0), w.1)

each_part : {X : Type 0} (f : X → Constants) (xs : List X) → ArePlain (gathered (map f xs)) → AllByRecursion (λ x. ArePlain (f x)) xs
each_part f [] h = tt
each_part f (x ∷ xs) h = let w = parts (f x) (gathered (map f xs)) h in (w.0, each_part f xs w.1)

-- ---- expressions

abbrev pub Evals : Expr → Type 0
Evals e = ArePlain (constants_of e)

abbrev pub EvalsIf : Option Expr → Type 0
EvalsIf None = Unit {0}
EvalsIf (Some e) = Evals e

abbrev pub EvalsRight : Relation-F Expr Relation Operand Pair → Type 0
EvalsRight (Relation-F.With o e) = Evals e
EvalsRight Relation-F.IsNone = Unit {0}
EvalsRight Relation-F.IsNotNone = Unit {0}

abbrev pub Rights : List Relation → Type 0
Rights = AllByRecursion (λ r. EvalsRight (out-Relation r))

abbrev pub Operands : List Operand → Type 0
Operands = AllByRecursion (λ o. Evals (out-Operand o).value)

abbrev pub EvalPairs : List Pair → Type 0
EvalPairs = AllByRecursion (λ p. Evals (out-Pair p).key × Evals (out-Pair p).value)

-- the constants of an expression, and of each expression in it, are plain
abbrev pub Holds : Expr-F Expr Relation Operand Pair → Type 0
Holds (Expr-F.Name name) = Unit {0}
Holds (Expr-F.Literal constant) = IsPlainLiteral constant
Holds (Expr-F.ListOf es) = AllByRecursion Evals es
Holds (Expr-F.TupleOf es) = AllByRecursion Evals es
Holds (Expr-F.DictOf ps) = EvalPairs ps
Holds (Expr-F.Conditional test first second) = Evals test × Evals first × Evals second
Holds (Expr-F.Or es) = AllByRecursion Evals es
Holds (Expr-F.And es) = AllByRecursion Evals es
Holds (Expr-F.Not e) = Evals e
Holds (Expr-F.Compare first rest) = Evals first × Rights rest
Holds (Expr-F.Sum first rest) = Evals first × Operands rest
Holds (Expr-F.Product first rest) = Evals first × Operands rest
Holds (Expr-F.Sign minus e) = Evals e
Holds (Expr-F.Call callee args) = Evals callee × AllByRecursion Evals args
Holds (Expr-F.Index e at) = Evals e × Evals at
Holds (Expr-F.Slice e from to) = Evals e × EvalsIf from × EvalsIf to
Holds (Expr-F.Method on name args) = Evals on × AllByRecursion Evals args

right_layer : (r : Relation-F Expr Relation Operand Pair) → ArePlain (relation_step (map-Relation Expr Relation Operand Pair Constants Constants Constants Constants constants_of constants_of_relation constants_of_operand constants_of_pair r)) → EvalsRight r
right_layer (Relation-F.With o e) h = h
right_layer Relation-F.IsNone h = tt
right_layer Relation-F.IsNotNone h = tt

right : (r : Relation) → ArePlain (constants_of_relation r) → EvalsRight (out-Relation r)
unfolding constants_of_relation constants_of constants_of_operand constants_of_pair
right r h = right_layer (out-Relation r) (subst ArePlain (fold_out-Relation Constants Constants Constants Constants expression_step relation_step operand_step pair_step r) h)

operand : (o : Operand) → ArePlain (constants_of_operand o) → Evals (out-Operand o).value
unfolding constants_of_relation constants_of constants_of_operand constants_of_pair
operand o h = subst ArePlain (fold_out-Operand Constants Constants Constants Constants expression_step relation_step operand_step pair_step o) h

pair : (p : Pair) → ArePlain (constants_of_pair p) → Evals (out-Pair p).key × Evals (out-Pair p).value
unfolding constants_of_relation constants_of constants_of_operand constants_of_pair
pair p h = parts (constants_of (out-Pair p).key) (constants_of (out-Pair p).value) (subst ArePlain (fold_out-Pair Constants Constants Constants Constants expression_step relation_step operand_step pair_step p) h)

rights : (rs : List Relation) → ArePlain (gathered (map constants_of_relation rs)) → Rights rs
rights rs h = each_more _ _ right rs (each_part constants_of_relation rs h)

operands : (os : List Operand) → ArePlain (gathered (map constants_of_operand os)) → Operands os
operands os h = each_more _ _ operand os (each_part constants_of_operand os h)

first_and : (e : Expr) (es : List Expr) → ArePlain (constants_of e ++ gathered (map constants_of es)) → Evals e × AllByRecursion Evals es
first_and e es h = let w = parts (constants_of e) _ h in (w.0, each_part constants_of es w.1)

chained : (e : Expr) (os : List Operand) → ArePlain (constants_of e ++ gathered (map constants_of_operand os)) → Evals e × Operands os
chained e os h = let w = parts (constants_of e) _ h in (w.0, operands os w.1)

holds_layer : (x : Expr-F Expr Relation Operand Pair) → ArePlain (expression_step (map-Expr Expr Relation Operand Pair Constants Constants Constants Constants constants_of constants_of_relation constants_of_operand constants_of_pair x)) → Holds x
holds_layer (Expr-F.Name name) h = tt
holds_layer (Expr-F.Literal constant) h = h.0
holds_layer (Expr-F.ListOf es) h = each_part constants_of es h
holds_layer (Expr-F.TupleOf es) h = each_part constants_of es h
holds_layer (Expr-F.DictOf ps) h = each_more _ _ pair ps (each_part constants_of_pair ps h)
holds_layer (Expr-F.Conditional test first second) h =
    let w = parts (constants_of test) (constants_of first ++ constants_of second) h in
    let v = parts (constants_of first) (constants_of second) w.1 in
    (w.0, v.0, v.1)
holds_layer (Expr-F.Or es) h = each_part constants_of es h
holds_layer (Expr-F.And es) h = each_part constants_of es h
holds_layer (Expr-F.Not e) h = h
holds_layer (Expr-F.Compare first rest) h = let w = parts (constants_of first) (gathered (map constants_of_relation rest)) h in (w.0, rights rest w.1)
holds_layer (Expr-F.Sum first rest) h = chained first rest h
holds_layer (Expr-F.Product first rest) h = chained first rest h
holds_layer (Expr-F.Sign minus e) h = h
holds_layer (Expr-F.Call callee args) h = first_and callee args h
holds_layer (Expr-F.Index e at) h = parts (constants_of e) (constants_of at) h
holds_layer (Expr-F.Slice e None None) h = let w = parts (constants_of e) [] h in (w.0, tt, tt)
holds_layer (Expr-F.Slice e (Some from) None) h =
    let w = parts (constants_of e) (constants_of from ++ []) h in
    (w.0, (parts (constants_of from) [] w.1).0, tt)
holds_layer (Expr-F.Slice e None (Some to)) h = let w = parts (constants_of e) (constants_of to) h in (w.0, tt, w.1)
holds_layer (Expr-F.Slice e (Some from) (Some to)) h =
    let w = parts (constants_of e) (constants_of from ++ constants_of to) h in
    let v = parts (constants_of from) (constants_of to) w.1 in
    (w.0, v.0, v.1)
holds_layer (Expr-F.Method on name args) h = first_and on args h

pub holds : (e : Expr) → Evals e → Holds (out-Expr e)
unfolding constants_of_relation constants_of constants_of_operand constants_of_pair
holds e h = holds_layer (out-Expr e) (subst ArePlain (fold_out-Expr Constants Constants Constants Constants expression_step relation_step operand_step pair_step e) h)

-- ---- statements

abbrev pub Runs : Stmt → Type 0
Runs s = ArePlain (constants_by s)

abbrev pub EvalsAt : Target → Type 0
EvalsAt (target.Name name) = Unit {0}
EvalsAt (target.Item on at) = Evals on × Evals at

abbrev pub RunsArm : Arm → Type 0
RunsArm arm = Evals (out-Arm arm).test × AllByRecursion Runs (out-Arm arm).body

abbrev pub Opens : Stmt-F Stmt Arm Def → Type 0
Opens (Stmt-F.Return e) = EvalsIf e
Opens (Stmt-F.Delete into) = EvalsAt into
Opens (Stmt-F.Assign targets comma e) = AllByRecursion EvalsAt targets × Evals e
Opens (Stmt-F.Augment into o e) = EvalsAt into × Evals e
Opens (Stmt-F.Expression e) = Evals e
Opens (Stmt-F.If arms other) = AllByRecursion RunsArm arms × AllByRecursion Runs other
Opens (Stmt-F.While test body) = Evals test × AllByRecursion Runs body
Opens (Stmt-F.For names comma source body) = Evals source × AllByRecursion Runs body
Opens (Stmt-F.Function def) = ArePlain (constants_by_def def)
Opens _ = Unit {0}

pub runs_each : (body : List Stmt) → ArePlain (constants_in body) → AllByRecursion Runs body
runs_each body h = each_part constants_by body h

arm : (a : Arm) → ArePlain (constants_by_arm a) → RunsArm a
unfolding constants_by constants_by_arm constants_by_def
arm a h =
    let w = parts (constants_of (out-Arm a).test) (gathered (map constants_by (out-Arm a).body)) (subst ArePlain (fold_out-Arm Constants Constants Constants statement_step arm_step def_step a) h) in
    (w.0, runs_each (out-Arm a).body w.1)

-- the name and the text of a function, and its body
pub of_def : (def : Def) → ArePlain (constants_by_def def) → IsText (out-Def def).name × (IsText (out-Def def).source × ArePlain (constants_in (out-Def def).body))
unfolding constants_by constants_by_arm constants_by_def
of_def def h = subst ArePlain (fold_out-Def Constants Constants Constants statement_step arm_step def_step def) h

pub bodies : (def : Def) → ArePlain (constants_by_def def) → AllByRecursion Runs def.body
bodies def h = runs_each (out-Def def).body (of_def def h).1.1

if_evals : (e : Option Expr) → ArePlain (if_constants e) → EvalsIf e
if_evals None h = tt
if_evals (Some e) h = h

evals_at : (into : Target) → ArePlain (constants_at into) → EvalsAt into
evals_at (target.Name name) h = tt
evals_at (target.Item on at) h = parts (constants_of on) (constants_of at) h

assigns : (into : Target) (e : Expr) → ArePlain (constants_at into ++ constants_of e) → EvalsAt into × Evals e
assigns into e h = let w = parts (constants_at into) (constants_of e) h in (evals_at into w.0, w.1)

opens_layer : (x : Stmt-F Stmt Arm Def) → ArePlain (statement_step (map-Stmt Stmt Arm Def Constants Constants Constants constants_by constants_by_arm constants_by_def x)) → Opens x
opens_layer (Stmt-F.Return e) h = if_evals e h
opens_layer (Stmt-F.Delete into) h = evals_at into h
opens_layer (Stmt-F.Assign targets comma e) h =
    let w = parts (constants_at_all targets) (constants_of e) h in
    (each_more _ _ evals_at targets (each_part constants_at targets w.0), w.1)
opens_layer (Stmt-F.Augment into o e) h = assigns into e h
opens_layer (Stmt-F.Expression e) h = h
opens_layer (Stmt-F.If arms other) h =
    let w = parts (gathered (map constants_by_arm arms)) (gathered (map constants_by other)) h in
    (each_more _ _ arm arms (each_part constants_by_arm arms w.0), runs_each other w.1)
opens_layer (Stmt-F.While test body) h = let w = parts (constants_of test) (gathered (map constants_by body)) h in (w.0, runs_each body w.1)
opens_layer (Stmt-F.For names comma source body) h = let w = parts (constants_of source) (gathered (map constants_by body)) h in (w.0, runs_each body w.1)
opens_layer (Stmt-F.Function def) h = h
opens_layer Stmt-F.Pass h = tt
opens_layer Stmt-F.Break h = tt
opens_layer Stmt-F.Continue h = tt
opens_layer (Stmt-F.Global names) h = tt

pub opens : (s : Stmt) → Runs s → Opens (out-Stmt s)
unfolding constants_by constants_by_arm constants_by_def
opens s h = opens_layer (out-Stmt s) (subst ArePlain (fold_out-Stmt Constants Constants Constants statement_step arm_step def_step s) h)
