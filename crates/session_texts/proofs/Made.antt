-- The constants of a tree that is made of smaller ones.
use Rattle.std.proofs.Common.{ℕ, Bool, List, [], ◌∷◌, ◌++◌, map, Option, Some, None, sym, subst}
use Rattle.std.specs.List.{AllByRecursion}
use Rattle.py_tree.specs.declared.expressions.Expr.{Expr, roll-Expr}
use Rattle.py_tree.specs.declared.expressions.Expr.TheOpen.{Expr-F, Relation-F}
use Rattle.py_tree.specs.declared.expressions.Expr.TheFolds.{map-Expr, map-Relation, fold-roll-Expr, fold-roll-Relation, fold_out-Operand, fold_out-Pair}
use Rattle.py_tree.specs.declared.expressions.Expr.TheVariants as e
use Rattle.py_tree.specs.declared.expressions.Literal.{Literal}
use Rattle.py_tree.specs.declared.expressions.Op.{Op}
use Rattle.py_tree.specs.declared.expressions.Operand.{Operand}
use Rattle.py_tree.specs.declared.expressions.Pair.{Pair}
use Rattle.py_tree.specs.declared.expressions.Relation.{Relation, roll-Relation}
use Rattle.py_tree.specs.declared.expressions.Relation.TheVariants as relation
use Rattle.py_tree.specs.declared.expressions.Target.{Target}
use Rattle.py_tree.specs.declared.statements.Arm.{Arm}
use Rattle.py_tree.specs.declared.statements.Def.{Def, roll-Def}
use Rattle.py_tree.specs.declared.statements.Stmt.{Stmt, roll-Stmt}
use Rattle.py_tree.specs.declared.statements.Stmt.TheOpen.{Stmt-F}
use Rattle.py_tree.specs.declared.statements.Stmt.TheFolds.{map-Stmt, fold-roll-Stmt, fold-roll-Def, fold_out-Arm}
use Rattle.py_tree.specs.declared.statements.Stmt.TheVariants as s
use Rattle.part_bytes.specs.Plain.{IsText}
use Rattle.plain_states.specs.Constants.{Constants, gathered, expression_step, relation_step, operand_step, pair_step, constants_of, constants_of_relation, constants_of_operand, constants_of_pair, if_constants, constants_at, constants_at_all, statement_step, arm_step, def_step, constants_by, constants_by_arm, constants_by_def}
use Rattle.plain_states.specs.Plain.{IsPlainLiteral, ArePlain}

abbrev pub Pass : Constants → Type 0
Pass = ArePlain

pub both : (xs ys : Constants) → Pass xs → Pass ys → Pass (xs ++ ys)
both [] ys h k = k
both (x ∷ xs) ys h k = (h.0, both xs ys h.1 k)

pub all_gathered : {X : Type 0} (f : X → Constants) (xs : List X) → AllByRecursion (λ x. Pass (f x)) xs → Pass (gathered (map f xs))
all_gathered f [] h = tt
all_gathered f (x ∷ xs) h = both (f x) (gathered (map f xs)) h.0 (all_gathered f xs h.1)

-- ---- expressions

abbrev pub Plain : Expr → Type 0
Plain x = Pass (constants_of x)

abbrev pub Plains : List Expr → Type 0
Plains = AllByRecursion Plain

abbrev pub OfRelation : Relation → Type 0
OfRelation r = Pass (constants_of_relation r)

abbrev pub OfOperand : Operand → Type 0
OfOperand o = Pass (constants_of_operand o)

abbrev pub OfPair : Pair → Type 0
OfPair p = Pass (constants_of_pair p)

abbrev pub Relations : List Relation → Type 0
Relations = AllByRecursion OfRelation

abbrev pub Operands : List Operand → Type 0
Operands = AllByRecursion OfOperand

abbrev pub Pairs : List Pair → Type 0
Pairs = AllByRecursion OfPair

abbrev Layer : Expr-F Expr Relation Operand Pair → Type 0
Layer x = Pass (expression_step (map-Expr Expr Relation Operand Pair Constants Constants Constants Constants constants_of constants_of_relation constants_of_operand constants_of_pair x))

made : (x : Expr-F Expr Relation Operand Pair) → Layer x → Plain (roll-Expr x)
unfolding constants_of constants_of_relation constants_of_operand constants_of_pair
made x h = subst Pass (sym (fold-roll-Expr Constants Constants Constants Constants expression_step relation_step operand_step pair_step x)) h

pub of_name : (n : List ℕ) → Plain (e.Name n)
of_name n = subst Plain (e.rolls-Name n) (made (Expr-F.Name n) tt)

pub of_literal : (c : Literal) → IsPlainLiteral c → Plain (e.Literal c)
of_literal c h = subst Plain (e.rolls-Literal c) (made (Expr-F.Literal c) (h, tt))

pub of_list : (xs : List Expr) → Plains xs → Plain (e.ListOf xs)
of_list xs h = subst Plain (e.rolls-ListOf xs) (made (Expr-F.ListOf xs) (all_gathered constants_of xs h))

pub of_tuple : (xs : List Expr) → Plains xs → Plain (e.TupleOf xs)
of_tuple xs h = subst Plain (e.rolls-TupleOf xs) (made (Expr-F.TupleOf xs) (all_gathered constants_of xs h))

pub of_dict : (ps : List Pair) → Pairs ps → Plain (e.DictOf ps)
of_dict ps h = subst Plain (e.rolls-DictOf ps) (made (Expr-F.DictOf ps) (all_gathered constants_of_pair ps h))

pub of_conditional : (test first second : Expr) → Plain test → Plain first → Plain second → Plain (e.Conditional test first second)
of_conditional test first second h k l =
    subst Plain (e.rolls-Conditional test first second)
    (made (Expr-F.Conditional test first second) (both (constants_of test) (constants_of first ++ constants_of second) h (both (constants_of first) (constants_of second) k l)))

pub of_or : (xs : List Expr) → Plains xs → Plain (e.Or xs)
of_or xs h = subst Plain (e.rolls-Or xs) (made (Expr-F.Or xs) (all_gathered constants_of xs h))

pub of_and : (xs : List Expr) → Plains xs → Plain (e.And xs)
of_and xs h = subst Plain (e.rolls-And xs) (made (Expr-F.And xs) (all_gathered constants_of xs h))

pub of_not : (x : Expr) → Plain x → Plain (e.Not x)
of_not x h = subst Plain (e.rolls-Not x) (made (Expr-F.Not x) h)

pub of_compare : (x : Expr) (rs : List Relation) → Plain x → Relations rs → Plain (e.Compare x rs)
of_compare x rs h k = subst Plain (e.rolls-Compare x rs) (made (Expr-F.Compare x rs) (both (constants_of x) _ h (all_gathered constants_of_relation rs k)))

pub of_sum : (x : Expr) (os : List Operand) → Plain x → Operands os → Plain (e.Sum x os)
of_sum x os h k = subst Plain (e.rolls-Sum x os) (made (Expr-F.Sum x os) (both (constants_of x) _ h (all_gathered constants_of_operand os k)))

pub of_product : (x : Expr) (os : List Operand) → Plain x → Operands os → Plain (e.Product x os)
of_product x os h k = subst Plain (e.rolls-Product x os) (made (Expr-F.Product x os) (both (constants_of x) _ h (all_gathered constants_of_operand os k)))

pub of_sign : (minus : Bool) (x : Expr) → Plain x → Plain (e.Sign minus x)
of_sign minus x h = subst Plain (e.rolls-Sign minus x) (made (Expr-F.Sign minus x) h)

pub of_call : (x : Expr) (xs : List Expr) → Plain x → Plains xs → Plain (e.Call x xs)
of_call x xs h k = subst Plain (e.rolls-Call x xs) (made (Expr-F.Call x xs) (both (constants_of x) _ h (all_gathered constants_of xs k)))

pub of_method : (x : Expr) (n : List ℕ) (xs : List Expr) → Plain x → Plains xs → Plain (e.Method x n xs)
of_method x n xs h k = subst Plain (e.rolls-Method x n xs) (made (Expr-F.Method x n xs) (both (constants_of x) _ h (all_gathered constants_of xs k)))

pub of_index : (x at : Expr) → Plain x → Plain at → Plain (e.Index x at)
of_index x at h k = subst Plain (e.rolls-Index x at) (made (Expr-F.Index x at) (both (constants_of x) (constants_of at) h k))

pub of_slice : (x : Expr) (from to : Option Expr) → Plain x → Pass (if_constants from) → Pass (if_constants to) → Plain (e.Slice x from to)
of_slice x from to h k l = subst Plain (e.rolls-Slice x from to) (made (Expr-F.Slice x from to) (sliced from to k l))
  where
    sliced : (from to : Option Expr) → Pass (if_constants from) → Pass (if_constants to) → Layer (Expr-F.Slice x from to)
    sliced None None k l = both (constants_of x) [] h tt
    sliced (Some a) None k l = both (constants_of x) (constants_of a ++ []) h (both (constants_of a) [] k tt)
    sliced None (Some b) k l = both (constants_of x) (constants_of b) h l
    sliced (Some a) (Some b) k l = both (constants_of x) (constants_of a ++ constants_of b) h (both (constants_of a) (constants_of b) k l)

-- the nodes of chains
related : (x : Relation-F Expr Relation Operand Pair) → Pass (relation_step (map-Relation Expr Relation Operand Pair Constants Constants Constants Constants constants_of constants_of_relation constants_of_operand constants_of_pair x)) → OfRelation (roll-Relation x)
unfolding constants_of constants_of_relation constants_of_operand constants_of_pair
related x h = subst Pass (sym (fold-roll-Relation Constants Constants Constants Constants expression_step relation_step operand_step pair_step x)) h

pub of_relation : (o : Op) (x : Expr) → Plain x → OfRelation (relation.With o x)
of_relation o x h = subst OfRelation (relation.rolls-With o x) (related (Relation-F.With o x) h)

pub of_is_none : OfRelation relation.IsNone
of_is_none = subst OfRelation relation.rolls-IsNone (related Relation-F.IsNone tt)

pub of_is_not_none : OfRelation relation.IsNotNone
of_is_not_none = subst OfRelation relation.rolls-IsNotNone (related Relation-F.IsNotNone tt)

pub of_operand : (o : Op) (x : Expr) → Plain x → Pass (constants_of_operand (record { op = o; value = x }))
unfolding constants_of constants_of_relation constants_of_operand constants_of_pair
of_operand o x h = subst Pass (sym (fold_out-Operand Constants Constants Constants Constants expression_step relation_step operand_step pair_step (record { op = o; value = x }))) h

pub of_pair : (x y : Expr) → Plain x → Plain y → Pass (constants_of_pair (record { key = x; value = y }))
unfolding constants_of constants_of_relation constants_of_operand constants_of_pair
of_pair x y h k =
    subst Pass (sym (fold_out-Pair Constants Constants Constants Constants expression_step relation_step operand_step pair_step (record { key = x; value = y }))) (both (constants_of x) (constants_of y) h k)

-- ---- statements

abbrev pub Stated : Stmt → Type 0
Stated x = Pass (constants_by x)

abbrev pub Stateds : List Stmt → Type 0
Stateds = AllByRecursion Stated

abbrev pub OfArm : Arm → Type 0
OfArm a = Pass (constants_by_arm a)

abbrev pub Arms : List Arm → Type 0
Arms = AllByRecursion OfArm

stated : (x : Stmt-F Stmt Arm Def) → Pass (statement_step (map-Stmt Stmt Arm Def Constants Constants Constants constants_by constants_by_arm constants_by_def x)) → Stated (roll-Stmt x)
unfolding constants_by constants_by_arm constants_by_def
stated x h = subst Pass (sym (fold-roll-Stmt Constants Constants Constants statement_step arm_step def_step x)) h

pub of_pass : Stated s.Pass
of_pass = subst Stated s.rolls-Pass (stated Stmt-F.Pass tt)

pub of_break : Stated s.Break
of_break = subst Stated s.rolls-Break (stated Stmt-F.Break tt)

pub of_continue : Stated s.Continue
of_continue = subst Stated s.rolls-Continue (stated Stmt-F.Continue tt)

pub of_return : (x : Option Expr) → Pass (if_constants x) → Stated (s.Return x)
of_return x h = subst Stated (s.rolls-Return x) (stated (Stmt-F.Return x) h)

pub of_global : (ns : List (List ℕ)) → Stated (s.Global ns)
of_global ns = subst Stated (s.rolls-Global ns) (stated (Stmt-F.Global ns) tt)

pub of_delete : (to : Target) → Pass (constants_at to) → Stated (s.Delete to)
of_delete to h = subst Stated (s.rolls-Delete to) (stated (Stmt-F.Delete to) h)

abbrev pub At : Target → Type 0
At to = Pass (constants_at to)

abbrev pub Ats : List Target → Type 0
Ats = AllByRecursion At

pub of_assign : (ts : List Target) (comma : Bool) (x : Expr) → Ats ts → Plain x → Stated (s.Assign ts comma x)
of_assign ts comma x h k = subst Stated (s.rolls-Assign ts comma x) (stated (Stmt-F.Assign ts comma x) (both (constants_at_all ts) (constants_of x) (all_gathered constants_at ts h) k))

pub of_augment : (to : Target) (o : Op) (x : Expr) → Pass (constants_at to) → Plain x → Stated (s.Augment to o x)
of_augment to o x h k = subst Stated (s.rolls-Augment to o x) (stated (Stmt-F.Augment to o x) (both (constants_at to) (constants_of x) h k))

pub of_show : (x : Expr) → Plain x → Stated (s.Expression x)
of_show x h = subst Stated (s.rolls-Expression x) (stated (Stmt-F.Expression x) h)

pub of_if : (arms : List Arm) (other : List Stmt) → Arms arms → Stateds other → Stated (s.If arms other)
of_if arms other h k =
    subst Stated (s.rolls-If arms other)
    (stated (Stmt-F.If arms other) (both (gathered (map constants_by_arm arms)) (gathered (map constants_by other)) (all_gathered constants_by_arm arms h) (all_gathered constants_by other k)))

pub of_while : (test : Expr) (body : List Stmt) → Plain test → Stateds body → Stated (s.While test body)
of_while test body h k = subst Stated (s.rolls-While test body) (stated (Stmt-F.While test body) (both (constants_of test) _ h (all_gathered constants_by body k)))

pub of_for : (ns : List (List ℕ)) (comma : Bool) (source : Expr) (body : List Stmt) → Plain source → Stateds body → Stated (s.For ns comma source body)
of_for ns comma source body h k =
    subst Stated (s.rolls-For ns comma source body) (stated (Stmt-F.For ns comma source body) (both (constants_of source) _ h (all_gathered constants_by body k)))

pub of_function : (def : Def) → Pass (constants_by_def def) → Stated (s.Function def)
of_function def h = subst Stated (s.rolls-Function def) (stated (Stmt-F.Function def) h)

pub of_arm : (test : Expr) (body : List Stmt) → Plain test → Stateds body → Pass (constants_by_arm (record { test = test; body = body }))
unfolding constants_by constants_by_arm constants_by_def
of_arm test body h k =
    subst Pass (sym (fold_out-Arm Constants Constants Constants statement_step arm_step def_step (record { test = test; body = body }))) (both (constants_of test) _ h (all_gathered constants_by body k))

pub of_def : (name : List ℕ) (params : List (List ℕ)) (body : List Stmt) (source : List ℕ) → IsText name → IsText source → Stateds body
    → Pass (constants_by_def (roll-Def (record { name = name; params = params; body = body; source = source })))
unfolding constants_by constants_by_arm constants_by_def
of_def name params body source h k l =
    subst Pass (sym (fold-roll-Def Constants Constants Constants statement_step arm_step def_step (record { name = name; params = params; body = body; source = source })))
    (h, (k, all_gathered constants_by body l))
