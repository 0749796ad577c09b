-- The names in a tree that is made of smaller ones.
use Rattle.std.proofs.Common.{ℕ, Bool, List, [], ◌∷◌, ◌++◌, map, Option, Some, None, sym, subst}
use Rattle.std.specs.List.{AllByRecursion}
use Rattle.py_tree.specs.declared.expressions.Expr.{Expr, roll-Expr}
use Rattle.py_tree.specs.declared.expressions.Expr.TheOpen.{Expr-F, Relation-F}
use Rattle.py_tree.specs.declared.expressions.Expr.TheFolds.{map-Expr, map-Relation, fold-roll-Expr, fold-roll-Relation, fold_out-Operand, fold_out-Pair}
use Rattle.py_tree.specs.declared.expressions.Expr.TheVariants as e
use Rattle.py_tree.specs.declared.expressions.Literal.{Literal}
use Rattle.py_tree.specs.declared.expressions.Op.{Op}
use Rattle.py_tree.specs.declared.expressions.Operand.{Operand}
use Rattle.py_tree.specs.declared.expressions.Pair.{Pair}
use Rattle.py_tree.specs.declared.expressions.Relation.{Relation, roll-Relation}
use Rattle.py_tree.specs.declared.expressions.Relation.TheVariants as relation
use Rattle.py_tree.specs.declared.expressions.Target.{Target}
use Rattle.py_tree.specs.declared.statements.Arm.{Arm}
use Rattle.py_tree.specs.declared.statements.Def.{Def, roll-Def}
use Rattle.py_tree.specs.declared.statements.Stmt.{Stmt, roll-Stmt}
use Rattle.py_tree.specs.declared.statements.Stmt.TheOpen.{Stmt-F}
use Rattle.py_tree.specs.declared.statements.Stmt.TheFolds.{map-Stmt, fold-roll-Stmt, fold-roll-Def, fold_out-Arm}
use Rattle.py_tree.specs.declared.statements.Stmt.TheVariants as s
use Rattle.py_tree.specs.Locals.{Names, joined}
use Rattle.py_laws.specs.Mentioned.{expression_step, relation_step, operand_step, pair_step, names_of, names_of_relation, names_of_operand, names_of_pair, if_names, names_at, names_at_all, statement_step, arm_step, def_step, names_by, names_by_arm, names_by_def}

module _ (Known : List ℕ → Type 0) where
  abbrev pub Pass : Names → Type 0
  Pass = AllByRecursion Known

  pub both : (xs ys : Names) → Pass xs → Pass ys → Pass (xs ++ ys)
  both [] ys h k = k
  both (x ∷ xs) ys h k = (h.0, both xs ys h.1 k)

  pub all_joined : {X : Type 0} (f : X → Names) (xs : List X) → AllByRecursion (λ x. Pass (f x)) xs → Pass (joined (map f xs))
  all_joined f [] h = tt
  all_joined f (x ∷ xs) h = both (f x) (joined (map f xs)) h.0 (all_joined f xs h.1)

  -- ---- expressions

  abbrev pub Named : Expr → Type 0
  Named x = Pass (names_of x)

  abbrev pub Nameds : List Expr → Type 0
  Nameds = AllByRecursion Named

  abbrev pub OfRelation : Relation → Type 0
  OfRelation r = Pass (names_of_relation r)

  abbrev pub OfOperand : Operand → Type 0
  OfOperand o = Pass (names_of_operand o)

  abbrev pub OfPair : Pair → Type 0
  OfPair p = Pass (names_of_pair p)

  abbrev pub Relations : List Relation → Type 0
  Relations = AllByRecursion OfRelation

  abbrev pub Operands : List Operand → Type 0
  Operands = AllByRecursion OfOperand

  abbrev pub Pairs : List Pair → Type 0
  Pairs = AllByRecursion OfPair

  abbrev Layer : Expr-F Expr Relation Operand Pair → Type 0
  Layer x = Pass (expression_step (map-Expr Expr Relation Operand Pair Names Names Names Names names_of names_of_relation names_of_operand names_of_pair x))

  made : (x : Expr-F Expr Relation Operand Pair) → Layer x → Named (roll-Expr x)
  unfolding names_of names_of_relation names_of_operand names_of_pair
  made x h = subst Pass (sym (fold-roll-Expr Names Names Names Names expression_step relation_step operand_step pair_step x)) h

  pub of_name : (n : List ℕ) → Known n → Named (e.Name n)
  of_name n h = subst Named (e.rolls-Name n) (made (Expr-F.Name n) (h, tt))

  pub of_literal : (c : Literal) → Named (e.Literal c)
  of_literal c = subst Named (e.rolls-Literal c) (made (Expr-F.Literal c) tt)

  pub of_list : (xs : List Expr) → Nameds xs → Named (e.ListOf xs)
  of_list xs h = subst Named (e.rolls-ListOf xs) (made (Expr-F.ListOf xs) (all_joined names_of xs h))

  pub of_tuple : (xs : List Expr) → Nameds xs → Named (e.TupleOf xs)
  of_tuple xs h = subst Named (e.rolls-TupleOf xs) (made (Expr-F.TupleOf xs) (all_joined names_of xs h))

  pub of_dict : (ps : List Pair) → Pairs ps → Named (e.DictOf ps)
  of_dict ps h = subst Named (e.rolls-DictOf ps) (made (Expr-F.DictOf ps) (all_joined names_of_pair ps h))

  pub of_conditional : (test first second : Expr) → Named test → Named first → Named second → Named (e.Conditional test first second)
  of_conditional test first second h k l =
      subst Named (e.rolls-Conditional test first second)
      (made (Expr-F.Conditional test first second) (both (names_of test) (names_of first ++ names_of second) h (both (names_of first) (names_of second) k l)))

  pub of_or : (xs : List Expr) → Nameds xs → Named (e.Or xs)
  of_or xs h = subst Named (e.rolls-Or xs) (made (Expr-F.Or xs) (all_joined names_of xs h))

  pub of_and : (xs : List Expr) → Nameds xs → Named (e.And xs)
  of_and xs h = subst Named (e.rolls-And xs) (made (Expr-F.And xs) (all_joined names_of xs h))

  pub of_not : (x : Expr) → Named x → Named (e.Not x)
  of_not x h = subst Named (e.rolls-Not x) (made (Expr-F.Not x) h)

  pub of_compare : (x : Expr) (rs : List Relation) → Named x → Relations rs → Named (e.Compare x rs)
  of_compare x rs h k = subst Named (e.rolls-Compare x rs) (made (Expr-F.Compare x rs) (both (names_of x) _ h (all_joined names_of_relation rs k)))

  pub of_sum : (x : Expr) (os : List Operand) → Named x → Operands os → Named (e.Sum x os)
  of_sum x os h k = subst Named (e.rolls-Sum x os) (made (Expr-F.Sum x os) (both (names_of x) _ h (all_joined names_of_operand os k)))

  pub of_product : (x : Expr) (os : List Operand) → Named x → Operands os → Named (e.Product x os)
  of_product x os h k = subst Named (e.rolls-Product x os) (made (Expr-F.Product x os) (both (names_of x) _ h (all_joined names_of_operand os k)))

  pub of_sign : (minus : Bool) (x : Expr) → Named x → Named (e.Sign minus x)
  of_sign minus x h = subst Named (e.rolls-Sign minus x) (made (Expr-F.Sign minus x) h)

  pub of_call : (x : Expr) (xs : List Expr) → Named x → Nameds xs → Named (e.Call x xs)
  of_call x xs h k = subst Named (e.rolls-Call x xs) (made (Expr-F.Call x xs) (both (names_of x) _ h (all_joined names_of xs k)))

  pub of_method : (x : Expr) (n : List ℕ) (xs : List Expr) → Named x → Known n → Nameds xs → Named (e.Method x n xs)
  of_method x n xs h l k = subst Named (e.rolls-Method x n xs) (made (Expr-F.Method x n xs) (l, both (names_of x) _ h (all_joined names_of xs k)))

  pub of_index : (x at : Expr) → Named x → Named at → Named (e.Index x at)
  of_index x at h k = subst Named (e.rolls-Index x at) (made (Expr-F.Index x at) (both (names_of x) (names_of at) h k))

  pub of_slice : (x : Expr) (from to : Option Expr) → Named x → Pass (if_names from) → Pass (if_names to) → Named (e.Slice x from to)
  of_slice x from to h k l = subst Named (e.rolls-Slice x from to) (made (Expr-F.Slice x from to) (sliced from to k l))
    where
      sliced : (from to : Option Expr) → Pass (if_names from) → Pass (if_names to) → Layer (Expr-F.Slice x from to)
      sliced None None k l = both (names_of x) [] h tt
      sliced (Some a) None k l = both (names_of x) (names_of a ++ []) h (both (names_of a) [] k tt)
      sliced None (Some b) k l = both (names_of x) (names_of b) h l
      sliced (Some a) (Some b) k l = both (names_of x) (names_of a ++ names_of b) h (both (names_of a) (names_of b) k l)

  -- the nodes of chains
  related : (x : Relation-F Expr Relation Operand Pair) → Pass (relation_step (map-Relation Expr Relation Operand Pair Names Names Names Names names_of names_of_relation names_of_operand names_of_pair x)) → OfRelation (roll-Relation x)
  unfolding names_of names_of_relation names_of_operand names_of_pair
  related x h = subst Pass (sym (fold-roll-Relation Names Names Names Names expression_step relation_step operand_step pair_step x)) h

  pub of_relation : (o : Op) (x : Expr) → Named x → OfRelation (relation.With o x)
  of_relation o x h = subst OfRelation (relation.rolls-With o x) (related (Relation-F.With o x) h)

  pub of_is_none : OfRelation relation.IsNone
  of_is_none = subst OfRelation relation.rolls-IsNone (related Relation-F.IsNone tt)

  pub of_is_not_none : OfRelation relation.IsNotNone
  of_is_not_none = subst OfRelation relation.rolls-IsNotNone (related Relation-F.IsNotNone tt)

  pub of_operand : (o : Op) (x : Expr) → Named x → Pass (names_of_operand (record { op = o; value = x }))
  unfolding names_of names_of_relation names_of_operand names_of_pair
  of_operand o x h = subst Pass (sym (fold_out-Operand Names Names Names Names expression_step relation_step operand_step pair_step (record { op = o; value = x }))) h

  pub of_pair : (x y : Expr) → Named x → Named y → Pass (names_of_pair (record { key = x; value = y }))
  unfolding names_of names_of_relation names_of_operand names_of_pair
  of_pair x y h k =
      subst Pass (sym (fold_out-Pair Names Names Names Names expression_step relation_step operand_step pair_step (record { key = x; value = y }))) (both (names_of x) (names_of y) h k)

  -- ---- statements

  abbrev pub Stated : Stmt → Type 0
  Stated x = Pass (names_by x)

  abbrev pub Stateds : List Stmt → Type 0
  Stateds = AllByRecursion Stated

  abbrev pub OfArm : Arm → Type 0
  OfArm a = Pass (names_by_arm a)

  abbrev pub Arms : List Arm → Type 0
  Arms = AllByRecursion OfArm

  stated : (x : Stmt-F Stmt Arm Def) → Pass (statement_step (map-Stmt Stmt Arm Def Names Names Names names_by names_by_arm names_by_def x)) → Stated (roll-Stmt x)
  unfolding names_by names_by_arm names_by_def
  stated x h = subst Pass (sym (fold-roll-Stmt Names Names Names statement_step arm_step def_step x)) h

  pub of_pass : Stated s.Pass
  of_pass = subst Stated s.rolls-Pass (stated Stmt-F.Pass tt)

  pub of_break : Stated s.Break
  of_break = subst Stated s.rolls-Break (stated Stmt-F.Break tt)

  pub of_continue : Stated s.Continue
  of_continue = subst Stated s.rolls-Continue (stated Stmt-F.Continue tt)

  pub of_return : (x : Option Expr) → Pass (if_names x) → Stated (s.Return x)
  of_return x h = subst Stated (s.rolls-Return x) (stated (Stmt-F.Return x) h)

  pub of_global : (ns : Names) → Pass ns → Stated (s.Global ns)
  of_global ns h = subst Stated (s.rolls-Global ns) (stated (Stmt-F.Global ns) h)

  pub of_delete : (to : Target) → Pass (names_at to) → Stated (s.Delete to)
  of_delete to h = subst Stated (s.rolls-Delete to) (stated (Stmt-F.Delete to) h)

  abbrev pub At : Target → Type 0
  At to = Pass (names_at to)

  abbrev pub Ats : List Target → Type 0
  Ats = AllByRecursion At

  pub of_assign : (ts : List Target) (comma : Bool) (x : Expr) → Ats ts → Named x → Stated (s.Assign ts comma x)
  of_assign ts comma x h k = subst Stated (s.rolls-Assign ts comma x) (stated (Stmt-F.Assign ts comma x) (both (names_at_all ts) (names_of x) (all_joined names_at ts h) k))

  pub of_augment : (to : Target) (o : Op) (x : Expr) → Pass (names_at to) → Named x → Stated (s.Augment to o x)
  of_augment to o x h k = subst Stated (s.rolls-Augment to o x) (stated (Stmt-F.Augment to o x) (both (names_at to) (names_of x) h k))

  pub of_show : (x : Expr) → Named x → Stated (s.Expression x)
  of_show x h = subst Stated (s.rolls-Expression x) (stated (Stmt-F.Expression x) h)

  pub of_if : (arms : List Arm) (other : List Stmt) → Arms arms → Stateds other → Stated (s.If arms other)
  of_if arms other h k =
      subst Stated (s.rolls-If arms other)
      (stated (Stmt-F.If arms other) (both (joined (map names_by_arm arms)) (joined (map names_by other)) (all_joined names_by_arm arms h) (all_joined names_by other k)))

  pub of_while : (test : Expr) (body : List Stmt) → Named test → Stateds body → Stated (s.While test body)
  of_while test body h k = subst Stated (s.rolls-While test body) (stated (Stmt-F.While test body) (both (names_of test) _ h (all_joined names_by body k)))

  pub of_for : (ns : Names) (comma : Bool) (source : Expr) (body : List Stmt) → Pass ns → Named source → Stateds body → Stated (s.For ns comma source body)
  of_for ns comma source body l h k =
      subst Stated (s.rolls-For ns comma source body) (stated (Stmt-F.For ns comma source body) (both ns _ l (both (names_of source) _ h (all_joined names_by body k))))

  pub of_function : (def : Def) → Pass (names_by_def def) → Stated (s.Function def)
  of_function def h = subst Stated (s.rolls-Function def) (stated (Stmt-F.Function def) h)

  pub of_arm : (test : Expr) (body : List Stmt) → Named test → Stateds body → Pass (names_by_arm (record { test = test; body = body }))
  unfolding names_by names_by_arm names_by_def
  of_arm test body h k =
      subst Pass (sym (fold_out-Arm Names Names Names statement_step arm_step def_step (record { test = test; body = body }))) (both (names_of test) _ h (all_joined names_by body k))

  pub of_def : (name : List ℕ) (params : Names) (body : List Stmt) (source : List ℕ) → Known name → Pass params → Stateds body
      → Pass (names_by_def (roll-Def (record { name = name; params = params; body = body; source = source })))
  unfolding names_by names_by_arm names_by_def
  of_def name params body source l h k =
      subst Pass (sym (fold-roll-Def Names Names Names statement_step arm_step def_step (record { name = name; params = params; body = body; source = source })))
      (l, both params _ h (all_joined names_by body k))
