-- The statements of a cell are allowed, if each function at its top is of a kind: no function is elsewhere.
use Rattle.std.proofs.Common.{◌≡◌, ℕ, Bool, false, IsTrue, List, [], ◌∷◌, map, Option, Some, None, refl, ap, ◌∙◌, subst}
use Rattle.std.specs.List.{All, AllByRecursion}
use Rattle.std.proofs.lemmas.List.Elements.{All-from_recursion}
use Rattle.py_token.specs.declared.kinds.Kind.{Kind}
use Rattle.py_token.specs.declared.kinds.Kind.TheVariants as t
use Rattle.py_tree.specs.declared.expressions.Expr.{Expr}
use Rattle.py_tree.specs.declared.expressions.Op.{Op}
use Rattle.py_tree.specs.declared.expressions.Target as tree_of
use Rattle.py_tree.specs.declared.expressions.Target.TheVariants as target
use Rattle.py_tree.specs.declared.statements.Arm.{Arm}
use Rattle.py_tree.specs.declared.statements.Def.{Def, roll-Def}
use Rattle.py_tree.specs.declared.statements.Stmt.{Stmt}
use Rattle.py_tree.specs.declared.statements.Stmt.TheOpen.{Stmt-F, Arm-F, Def-F}
use Rattle.py_tree.specs.declared.statements.Stmt.TheFolds.{every-Arm, every-Def, every_made-Stmt, every_made-Arm, every_made-Def}
use Rattle.py_tree.specs.declared.statements.Stmt.TheVariants as s
use Rattle.py_grammar.specs.Statements.{to_name, to_item, pass_, break_, continue_, Simple, word, return_, give, declare, delete, assign, augment, show, spell_simple, Params, Statement, simple, compound, Head, choose, otherwise, while_true, for_each, define, Condition, if_true, else_if, Branches, branches, Block, inline, indented, Statements, statements_one, statements_more, spell_statement, spell_head, spell_condition, spell_branches, spell_block, spell_statements, Around, inside, hear, statement_stands, head_stands, condition_stands, branches_stand, block_stands, statements_stand}
use Rattle.py_grammar.specs.Trees.{tree_exprs, tree_target, tree_targets, tree_variables, tree_simple, tree_statement, tree_compound, arms_before, arms, tree_block, tree_statements}
use Rattle.py_laws.specs.Allowed.{MayBindAt, IsAllowedHere, ArmAny, DefAny, IsAllowed}
use Rattle.reader_laws.proofs.Made.{Ats}
use Rattle.reader_laws.proofs.Named.{push, AreKnown, assigned, varied, head, condition, statements}
use Rattle.reader_laws.proofs.Tokens.{Variable}

-- each element together with what holds of it
with_each : {A : Type 0} (P : A → Type 0) (xs : List A) → AllByRecursion P xs → (ys : List ((x : A) × P x)) × (map (λ e. e.0) ys ≡ xs)
with_each P [] h = ([], refl)
with_each P (x ∷ xs) h = let w = with_each P xs h.1 in ((x, h.0) ∷ w.0, ap (◌∷◌ x) w.1)

-- one layer of a statement
abbrev if_layer : List Arm → List Stmt → Stmt-F Stmt Arm Def
if_layer tests other = Stmt-F.If tests other

abbrev while_layer : Expr → List Stmt → Stmt-F Stmt Arm Def
while_layer test body = Stmt-F.While test body

abbrev for_layer : List (List ℕ) → Bool → Expr → List Stmt → Stmt-F Stmt Arm Def
for_layer ns comma source body = Stmt-F.For ns comma source body

abbrev arm_layer : Expr → List Stmt → Arm-F Stmt Arm Def
arm_layer test body = record { test = test; body = body }

abbrev def_layer : List ℕ → List (List ℕ) → List ℕ → List Stmt → Def-F Stmt Arm Def
def_layer name params source body = record { name = name; params = params; body = body; source = source }

module _ (IsOfKind : Def → Type 0) where
  abbrev Here : Stmt-F Stmt Arm Def → Type 0
  Here = IsAllowedHere IsOfKind

  abbrev pub Allowed : Stmt → Type 0
  Allowed = IsAllowed IsOfKind

  abbrev ArmAllowed : Arm → Type 0
  ArmAllowed = every-Arm Here ArmAny DefAny

  abbrev DefAllowed : Def → Type 0
  DefAllowed = every-Def Here ArmAny DefAny

  -- ---- statements that are made

  allowed_pass : Allowed s.Pass
  allowed_pass = subst Allowed s.rolls-Pass (every_made-Stmt Here ArmAny DefAny Stmt-F.Pass Stmt-F.Pass refl tt)

  allowed_break : Allowed s.Break
  allowed_break = subst Allowed s.rolls-Break (every_made-Stmt Here ArmAny DefAny Stmt-F.Break Stmt-F.Break refl tt)

  allowed_continue : Allowed s.Continue
  allowed_continue = subst Allowed s.rolls-Continue (every_made-Stmt Here ArmAny DefAny Stmt-F.Continue Stmt-F.Continue refl tt)

  allowed_return : (x : Option Expr) → Allowed (s.Return x)
  allowed_return x = subst Allowed (s.rolls-Return x) (every_made-Stmt Here ArmAny DefAny (Stmt-F.Return x) (Stmt-F.Return x) refl tt)

  allowed_global : (ns : List (List ℕ)) → Allowed (s.Global ns)
  allowed_global ns = subst Allowed (s.rolls-Global ns) (every_made-Stmt Here ArmAny DefAny (Stmt-F.Global ns) (Stmt-F.Global ns) refl tt)

  allowed_delete : (to : tree_of.Target) → Allowed (s.Delete to)
  allowed_delete to = subst Allowed (s.rolls-Delete to) (every_made-Stmt Here ArmAny DefAny (Stmt-F.Delete to) (Stmt-F.Delete to) refl tt)

  allowed_assign : (ts : List tree_of.Target) (comma : Bool) (x : Expr) → All MayBindAt ts → Allowed (s.Assign ts comma x)
  allowed_assign ts comma x h = subst Allowed (s.rolls-Assign ts comma x) (every_made-Stmt Here ArmAny DefAny (Stmt-F.Assign ts comma x) (Stmt-F.Assign ts comma x) refl h)

  allowed_augment : (to : tree_of.Target) (o : Op) (x : Expr) → MayBindAt to → Allowed (s.Augment to o x)
  allowed_augment to o x h = subst Allowed (s.rolls-Augment to o x) (every_made-Stmt Here ArmAny DefAny (Stmt-F.Augment to o x) (Stmt-F.Augment to o x) refl h)

  allowed_show : (x : Expr) → Allowed (s.Expression x)
  allowed_show x = subst Allowed (s.rolls-Expression x) (every_made-Stmt Here ArmAny DefAny (Stmt-F.Expression x) (Stmt-F.Expression x) refl tt)

  allowed_if : (tests : List Arm) (other : List Stmt) → AllByRecursion ArmAllowed tests → AllByRecursion Allowed other → Allowed (s.If tests other)
  allowed_if tests other h k =
      let a = with_each ArmAllowed tests h in
      let b = with_each Allowed other k in
      subst Allowed (s.rolls-If tests other)
      (every_made-Stmt Here ArmAny DefAny (Stmt-F.If tests other) (Stmt-F.If a.0 b.0) (ap (λ xs. if_layer xs (map (λ e. e.0) b.0)) a.1 ∙ ap (λ xs. if_layer tests xs) b.1) tt)

  allowed_while : (test : Expr) (body : List Stmt) → AllByRecursion Allowed body → Allowed (s.While test body)
  allowed_while test body h =
      let b = with_each Allowed body h in
      subst Allowed (s.rolls-While test body) (every_made-Stmt Here ArmAny DefAny (Stmt-F.While test body) (Stmt-F.While test b.0) (ap (λ xs. while_layer test xs) b.1) tt)

  allowed_for : (ns : List (List ℕ)) (comma : Bool) (source : Expr) (body : List Stmt) → All Variable ns → AllByRecursion Allowed body → Allowed (s.For ns comma source body)
  allowed_for ns comma source body v h =
      let b = with_each Allowed body h in
      subst Allowed (s.rolls-For ns comma source body) (every_made-Stmt Here ArmAny DefAny (Stmt-F.For ns comma source body) (Stmt-F.For ns comma source b.0) (ap (λ xs. for_layer ns comma source xs) b.1) v)

  allowed_arm : (test : Expr) (body : List Stmt) → AllByRecursion Allowed body → ArmAllowed (record { test = test; body = body })
  allowed_arm test body h =
      let b = with_each Allowed body h in
      every_made-Arm Here ArmAny DefAny (record { test = test; body = body }) (record { test = test; body = b.0 }) (ap (λ xs. arm_layer test xs) b.1) tt

  pub allowed_def : (name : List ℕ) (params : List (List ℕ)) (body : List Stmt) (source : List ℕ) → AllByRecursion Allowed body
      → DefAllowed (roll-Def (record { name = name; params = params; body = body; source = source }))
  allowed_def name params body source h =
      let b = with_each Allowed body h in
      every_made-Def Here ArmAny DefAny (record { name = name; params = params; body = body; source = source }) (record { name = name; params = params; body = b.0; source = source })
      (ap (λ xs. def_layer name params source xs) b.1) tt

  pub allowed_function : (def : Def) → Variable def.name → IsOfKind def → DefAllowed def → Allowed (s.Function def)
  allowed_function def v k h = subst Allowed (s.rolls-Function def) (every_made-Stmt Here ArmAny DefAny (Stmt-F.Function def) (Stmt-F.Function (def, h)) refl (v, k))

  -- ---- forms

  may_bind : (ts : List tree_of.Target) → Ats Variable ts → AllByRecursion MayBindAt ts
  may_bind [] h = tt
  may_bind (target.Name n ∷ ts) h = (h.0.0, may_bind ts h.1)
  may_bind (target.Item on at ∷ ts) h = (tt, may_bind ts h.1)

  simple-in : (x : Simple) (rest : List Kind) → AreKnown Variable (spell_simple x rest) → Allowed (tree_simple x)
  simple-in (word pass_) rest h = allowed_pass
  simple-in (word break_) rest h = allowed_break
  simple-in (word continue_) rest h = allowed_continue
  simple-in return_ rest h = allowed_return None
  simple-in (give a) rest h = allowed_return (Some (tree_exprs a))
  simple-in (declare ns) rest h = allowed_global _
  simple-in (delete to) rest h = allowed_delete (tree_target to)
  simple-in (assign ts a) rest h = allowed_assign (tree_targets ts) _ (tree_exprs a) (All-from_recursion MayBindAt (tree_targets ts) (may_bind (tree_targets ts) (assigned Variable ts _ h).0))
  simple-in (augment (to_name n) by a) rest h = allowed_augment _ _ (tree_exprs a) h.0
  simple-in (augment (to_item p b) by a) rest h = allowed_augment _ _ (tree_exprs a) tt
  simple-in (show a) rest h = allowed_show (tree_exprs a)

  abbrev pub IsDefine : Head → Type 0
  IsDefine (define n ps) = Unit {0}
  IsDefine _ = ⊥

  -- no function is in a block
  not_top : (h : Head) (a : Around) → IsTrue (inside h a).top → ⊥
  not_top (choose c) a e = cc
  not_top (otherwise bs) a e = cc
  not_top (while_true x) a e = cc
  not_top (for_each n x) a e = cc
  not_top (define n ps) a e = cc

  no_define : (h : Head) (a : Around) (e : List Kind → List Kind) → (IsTrue a.top → ⊥) → head_stands h a e → IsDefine h → ⊥
  no_define (define n ps) a e deep stands d = deep stands.0
  no_define _ a e deep stands d = d

  if_allowed : (source : List ℕ) (c : Condition) (body : List Stmt) → AllByRecursion ArmAllowed (arms_before c) → AllByRecursion Allowed body → Allowed (tree_compound source (choose c) body)
  if_allowed source (if_true a) body h k = allowed_if _ [] (allowed_arm _ body k, tt) tt
  if_allowed source (else_if bs a) body h k = allowed_if _ [] (push ArmAllowed (arms bs) _ h (allowed_arm _ body k)) tt

  arms_allowed : (c : Condition) (b : Block) → AllByRecursion ArmAllowed (arms_before c) → AllByRecursion Allowed (tree_block b) → AllByRecursion ArmAllowed (arms (branches c b))
  arms_allowed (if_true a) b h k = (allowed_arm _ (tree_block b) k, tt)
  arms_allowed (else_if bs a) b h k = push ArmAllowed (arms bs) _ h (allowed_arm _ (tree_block b) k)

  mutual
    statement-in : (x : Statement) (a : Around) (e : List Kind → List Kind) (rest : List Kind) → (IsTrue a.top → ⊥) → statement_stands x a e → AreKnown Variable (spell_statement x rest) → Allowed (tree_statement [] x)
    statement-in (simple x) a e rest deep stands h = simple-in x (t.Newline ∷ rest) h
    statement-in (compound hd b) a e rest deep stands h =
        head-in [] hd a e (spell_block b rest) (no_define hd a e deep stands.0) stands.0 h (tree_block b)
        (block-in b (inside hd a) (hear hd e) rest (not_top hd a) stands.1 (head Variable [] hd _ h).1)

    pub head-in : (source : List ℕ) (x : Head) (a : Around) (e : List Kind → List Kind) (rest : List Kind) → (IsDefine x → ⊥) → head_stands x a e → AreKnown Variable (spell_head x rest) → (body : List Stmt)
        → AllByRecursion Allowed body → Allowed (tree_compound source x body)
    head-in source (choose c) a e rest deep stands h body k = if_allowed source c body (condition-in c a e rest stands h) k
    head-in source (otherwise bs) a e rest deep stands h body k = allowed_if _ body (branches-in bs a e _ stands h) k
    head-in source (while_true x) a e rest deep stands h body k = allowed_while _ body k
    head-in source (for_each vs x) a e rest deep stands h body k = allowed_for (tree_variables vs) _ _ body (All-from_recursion Variable (tree_variables vs) (varied Variable vs _ h.1).0) k
    head-in source (define n ps) a e rest deep stands h body k = absurd (deep tt)

    condition-in : (x : Condition) (a : Around) (e : List Kind → List Kind) (rest : List Kind) → condition_stands x a e → AreKnown Variable (spell_condition x rest) → AllByRecursion ArmAllowed (arms_before x)
    condition-in (if_true x) a e rest stands h = tt
    condition-in (else_if bs x) a e rest stands h = branches-in bs a e _ stands h

    branches-in : (x : Branches) (a : Around) (e : List Kind → List Kind) (rest : List Kind) → branches_stand x a e → AreKnown Variable (spell_branches x rest) → AllByRecursion ArmAllowed (arms x)
    branches-in (branches c b) a e rest stands h =
        arms_allowed c b (condition-in c a e (spell_block b rest) stands.0 h)
        (block-in b (record { top = false; in_function = a.in_function; in_loop = a.in_loop }) (λ more. e (spell_condition c more)) rest (λ deep. cc deep) stands.1 (condition Variable c _ h).2)

    pub block-in : (x : Block) (a : Around) (e : List Kind → List Kind) (rest : List Kind) → (IsTrue a.top → ⊥) → block_stands x a e → AreKnown Variable (spell_block x rest) → AllByRecursion Allowed (tree_block x)
    block-in (inline x) a e rest deep stands h = (simple-in x (t.Newline ∷ rest) h, tt)
    block-in (indented xs) a e rest deep stands h = statements-in xs a e (t.Dedent ∷ rest) deep stands h.1.1

    statements-in : (x : Statements) (a : Around) (e : List Kind → List Kind) (rest : List Kind) → (IsTrue a.top → ⊥) → statements_stand x a e → AreKnown Variable (spell_statements x rest) → AllByRecursion Allowed (tree_statements x)
    statements-in (statements_one x) a e rest deep stands h = (statement-in x a e rest deep stands h, tt)
    statements-in (statements_more xs x) a e rest deep stands h =
        push Allowed (tree_statements xs) _ (statements-in xs a e (spell_statement x rest) deep stands.0 h)
        (statement-in x a (λ more. e (spell_statements xs more)) rest deep stands.1 (statements Variable xs _ h).1)

  -- a statement at the top, but a function
  pub top-in : (source : List ℕ) (x : Statement) (a : Around) (e : List Kind → List Kind) (rest : List Kind) → ((n : List ℕ) (ps : Params) (b : Block) → x ≡ compound (define n ps) b → ⊥) → statement_stands x a e
      → AreKnown Variable (spell_statement x rest) → Allowed (tree_statement source x)
  top-in source (simple x) a e rest deep stands h = simple-in x (t.Newline ∷ rest) h
  top-in source (compound hd b) a e rest deep stands h =
      head-in source hd a e (spell_block b rest) (other_head hd b deep) stands.0 h (tree_block b) (block-in b (inside hd a) (hear hd e) rest (not_top hd a) stands.1 (head Variable source hd _ h).1)
    where
      other_head : (x : Head) (b : Block) → ((n : List ℕ) (ps : Params) (c : Block) → compound x b ≡ compound (define n ps) c → ⊥) → IsDefine x → ⊥
      other_head (define n ps) b deep d = deep n ps b refl
      other_head _ b deep d = d
