-- The tree that a form means: one operand alone is no chain, and parentheses and trailing commas leave no node.
use Rattle.std.specs.Prelude.{◌≡◌, ℕ, Bool, true, false, List, [], ◌∷◌, ◌++◌, length, Option, Some, None}
use Rattle.py_token.specs.declared.kinds.Kind.{Kind}
use Rattle.py_tree.specs.declared.expressions.Expr.{Expr}
use Rattle.py_tree.specs.declared.expressions.Expr.TheVariants as e
use Rattle.py_tree.specs.declared.expressions.Literal.TheVariants as literal
use Rattle.py_tree.specs.declared.expressions.Relation.{Relation}
use Rattle.py_tree.specs.declared.expressions.Relation.TheVariants as relation
use Rattle.py_tree.specs.declared.expressions.Operand.{Operand}
use Rattle.py_tree.specs.declared.expressions.Pair.{Pair}
use Rattle.py_tree.specs.declared.expressions.Op as operator
use Rattle.py_tree.specs.declared.expressions.Op.TheVariants as o
use Rattle.py_tree.specs.declared.expressions.Target as tree_of
use Rattle.py_tree.specs.declared.expressions.Target.TheVariants as target
use Rattle.py_tree.specs.declared.statements.Stmt.{Stmt}
use Rattle.py_tree.specs.declared.statements.Stmt.TheVariants as s
use Rattle.py_tree.specs.declared.statements.Arm.{Arm}
use Rattle.py_tree.specs.declared.statements.Def.{roll-Def}
use Rattle.py_grammar.specs.Expressions.{Expression, plain, conditional, Ors, ors_one, ors_more, Ands, ands_one, ands_more, Negation, compared, negated, Compares, compares_one, compares_more, compares_none, compares_not_none, Relational, equal, not_equal, less, at_most, greater, at_least, within, not_within, Sums, sums_one, sums_more, Additive, plus, minus, Products, products_one, products_more, Multiplicative, times, floor, modulo, Signed, unsigned, signed, Primary, name, number, text, nothing, truth, falsity, empty, group, display, dict, call, index, slice, Exprs, single, tuple, tuple_comma, Callee, function, method, Bound, unbounded, bounded, Args, no_args, args, args_comma, Elements, elements_one, elements_more, Entries, no_entries, entries, entries_comma, Pairs, pairs_one, pairs_more}
use Rattle.py_grammar.specs.Statements.{Target, to_name, to_item, Places, places_one, places_more, Targets, targets, targets_comma, Variables, variables, variables_comma, Augmentation, by_plus, by_minus, by_times, by_floor, by_modulo, Names, names_one, names_more, Word, pass_, break_, continue_, Simple, word, return_, give, declare, delete, assign, augment, show, Params, no_params, params, params_comma, Statement, simple, compound, Head, choose, otherwise, while_true, for_each, define, Condition, if_true, else_if, Branches, branches, Block, inline, indented, Statements, statements_one, statements_more, spell_statement, spell_statements, Cell, IsCell}

abbrev pub relational_op : Relational → operator.Op
relational_op equal = o.Equal
relational_op not_equal = o.NotEqual
relational_op less = o.Less
relational_op at_most = o.AtMost
relational_op greater = o.More
relational_op at_least = o.AtLeast
relational_op within = o.In
relational_op not_within = o.NotIn

abbrev pub additive_op : Additive → operator.Op
additive_op plus = o.Plus
additive_op minus = o.Minus

abbrev pub multiplicative_op : Multiplicative → operator.Op
multiplicative_op times = o.Times
multiplicative_op floor = o.Floor
multiplicative_op modulo = o.Mod

abbrev pub is_minus : Additive → Bool
is_minus plus = false
is_minus minus = true

abbrev mutual
  pub tree_expression : Expression → Expr
  tree_expression (plain a) = tree_ors a
  tree_expression (conditional a test b) = e.Conditional (tree_ors test) (tree_ors a) (tree_expression b)

  pub tree_ors : Ors → Expr
  tree_ors (ors_one a) = tree_ands a
  tree_ors (ors_more b a) = e.Or (terms_ors b ++ tree_ands a ∷ [])

  pub terms_ors : Ors → List Expr
  terms_ors (ors_one a) = tree_ands a ∷ []
  terms_ors (ors_more b a) = terms_ors b ++ tree_ands a ∷ []

  pub tree_ands : Ands → Expr
  tree_ands (ands_one a) = tree_negation a
  tree_ands (ands_more b a) = e.And (terms_ands b ++ tree_negation a ∷ [])

  pub terms_ands : Ands → List Expr
  terms_ands (ands_one a) = tree_negation a ∷ []
  terms_ands (ands_more b a) = terms_ands b ++ tree_negation a ∷ []

  pub tree_negation : Negation → Expr
  tree_negation (compared a) = tree_compares a
  tree_negation (negated a) = e.Not (tree_negation a)

  pub tree_compares : Compares → Expr
  tree_compares (compares_one a) = tree_sums a
  tree_compares (compares_more c r a) = e.Compare (first_compared c) (relations c ++ relation.With (relational_op r) (tree_sums a) ∷ [])
  tree_compares (compares_none c) = e.Compare (first_compared c) (relations c ++ relation.IsNone ∷ [])
  tree_compares (compares_not_none c) = e.Compare (first_compared c) (relations c ++ relation.IsNotNone ∷ [])

  pub first_compared : Compares → Expr
  first_compared (compares_one a) = tree_sums a
  first_compared (compares_more c r a) = first_compared c
  first_compared (compares_none c) = first_compared c
  first_compared (compares_not_none c) = first_compared c

  pub relations : Compares → List Relation
  relations (compares_one a) = []
  relations (compares_more c r a) = relations c ++ relation.With (relational_op r) (tree_sums a) ∷ []
  relations (compares_none c) = relations c ++ relation.IsNone ∷ []
  relations (compares_not_none c) = relations c ++ relation.IsNotNone ∷ []

  pub tree_sums : Sums → Expr
  tree_sums (sums_one a) = tree_products a
  tree_sums (sums_more b s a) = e.Sum (first_summed b) (summed b ++ record { op = additive_op s; value = tree_products a } ∷ [])

  pub first_summed : Sums → Expr
  first_summed (sums_one a) = tree_products a
  first_summed (sums_more b s a) = first_summed b

  pub summed : Sums → List Operand
  summed (sums_one a) = []
  summed (sums_more b s a) = summed b ++ record { op = additive_op s; value = tree_products a } ∷ []

  pub tree_products : Products → Expr
  tree_products (products_one a) = tree_signed a
  tree_products (products_more b s a) = e.Product (first_multiplied b) (multiplied b ++ record { op = multiplicative_op s; value = tree_signed a } ∷ [])

  pub first_multiplied : Products → Expr
  first_multiplied (products_one a) = tree_signed a
  first_multiplied (products_more b s a) = first_multiplied b

  pub multiplied : Products → List Operand
  multiplied (products_one a) = []
  multiplied (products_more b s a) = multiplied b ++ record { op = multiplicative_op s; value = tree_signed a } ∷ []

  pub tree_signed : Signed → Expr
  tree_signed (unsigned a) = tree_primary a
  tree_signed (signed s a) = e.Sign (is_minus s) (tree_signed a)

  pub tree_primary : Primary → Expr
  tree_primary (name n) = e.Name n
  tree_primary (number n) = e.Literal (literal.Number n)
  tree_primary (text n) = e.Literal (literal.Text n)
  tree_primary nothing = e.Literal literal.Nothing
  tree_primary truth = e.Literal (literal.Bool true)
  tree_primary falsity = e.Literal (literal.Bool false)
  tree_primary empty = e.TupleOf []
  tree_primary (group a) = tree_exprs a
  tree_primary (display a) = e.ListOf (tree_args a)
  tree_primary (dict a) = e.DictOf (tree_entries a)
  tree_primary (call f a) = tree_call f (tree_args a)
  tree_primary (index p a) = e.Index (tree_primary p) (tree_expression a)
  tree_primary (slice p a b) = e.Slice (tree_primary p) (tree_bound a) (tree_bound b)

  pub tree_exprs : Exprs → Expr
  tree_exprs (single a) = tree_expression a
  tree_exprs (tuple es a) = e.TupleOf (tree_elements es ++ tree_expression a ∷ [])
  tree_exprs (tuple_comma es) = e.TupleOf (tree_elements es)

  pub tree_call : Callee → List Expr → Expr
  tree_call (function p) given = e.Call (tree_primary p) given
  tree_call (method p n) given = e.Method (tree_primary p) n given

  pub tree_bound : Bound → Option Expr
  tree_bound unbounded = None
  tree_bound (bounded a) = Some (tree_expression a)

  pub tree_args : Args → List Expr
  tree_args no_args = []
  tree_args (args es) = tree_elements es
  tree_args (args_comma es) = tree_elements es

  pub tree_elements : Elements → List Expr
  tree_elements (elements_one a) = tree_expression a ∷ []
  tree_elements (elements_more es a) = tree_elements es ++ tree_expression a ∷ []

  pub tree_entries : Entries → List Pair
  tree_entries no_entries = []
  tree_entries (entries ps) = tree_pairs ps
  tree_entries (entries_comma ps) = tree_pairs ps

  pub tree_pairs : Pairs → List Pair
  tree_pairs (pairs_one a b) = record { key = tree_expression a; value = tree_expression b } ∷ []
  tree_pairs (pairs_more ps a b) = tree_pairs ps ++ record { key = tree_expression a; value = tree_expression b } ∷ []

-- ---- statements

abbrev augmentation_op : Augmentation → operator.Op
augmentation_op by_plus = o.Plus
augmentation_op by_minus = o.Minus
augmentation_op by_times = o.Times
augmentation_op by_floor = o.Floor
augmentation_op by_modulo = o.Mod

abbrev pub tree_target : Target → tree_of.Target
tree_target (to_name n) = target.Name n
tree_target (to_item p a) = target.Item (tree_primary p) (tree_expression a)

abbrev pub tree_places : Places → List tree_of.Target
tree_places (places_one to) = tree_target to ∷ []
tree_places (places_more ps to) = tree_places ps ++ tree_target to ∷ []

abbrev pub tree_targets : Targets → List tree_of.Target
tree_targets (targets ps) = tree_places ps
tree_targets (targets_comma ps) = tree_places ps

-- whether a comma stands among them
abbrev pub targets_divided : Targets → Bool
targets_divided (targets (places_one to)) = false
targets_divided _ = true

abbrev pub tree_names : Names → List (List ℕ)
tree_names (names_one n) = n ∷ []
tree_names (names_more ns n) = tree_names ns ++ n ∷ []

abbrev pub tree_params : Params → List (List ℕ)
tree_params no_params = []
tree_params (params ns) = tree_names ns
tree_params (params_comma ns) = tree_names ns

abbrev pub tree_variables : Variables → List (List ℕ)
tree_variables (variables ns) = tree_names ns
tree_variables (variables_comma ns) = tree_names ns

abbrev pub variables_divided : Variables → Bool
variables_divided (variables (names_one n)) = false
variables_divided _ = true

abbrev tree_word : Word → Stmt
tree_word pass_ = s.Pass
tree_word break_ = s.Break
tree_word continue_ = s.Continue

abbrev pub tree_simple : Simple → Stmt
tree_simple (word w) = tree_word w
tree_simple return_ = s.Return None
tree_simple (give a) = s.Return (Some (tree_exprs a))
tree_simple (declare ns) = s.Global (tree_names ns)
tree_simple (delete to) = s.Delete (tree_target to)
tree_simple (assign ts a) = s.Assign (tree_targets ts) (targets_divided ts) (tree_exprs a)
tree_simple (augment to by a) = s.Augment (tree_target to) (augmentation_op by) (tree_exprs a)
tree_simple (show a) = s.Expression (tree_exprs a)

abbrev pub condition_test : Condition → Expr
condition_test (if_true a) = tree_expression a
condition_test (else_if bs a) = tree_expression a

-- the tree of a statement; the text is that of a function
abbrev mutual
  pub tree_statement : List ℕ → Statement → Stmt
  tree_statement source (simple x) = tree_simple x
  tree_statement source (compound h b) = tree_compound source h (tree_block b)

  pub tree_compound : List ℕ → Head → List Stmt → Stmt
  tree_compound source (choose c) body = s.If (arms_before c ++ record { test = condition_test c; body = body } ∷ []) []
  tree_compound source (otherwise bs) body = s.If (arms bs) body
  tree_compound source (while_true a) body = s.While (tree_expression a) body
  tree_compound source (for_each vs a) body = s.For (tree_variables vs) (variables_divided vs) (tree_exprs a) body
  tree_compound source (define n ps) body = s.Function (roll-Def (record { name = n; params = tree_params ps; body = body; source = source }))

  pub arms_before : Condition → List Arm
  arms_before (if_true a) = []
  arms_before (else_if bs a) = arms bs

  pub arms : Branches → List Arm
  arms (branches c b) = arms_before c ++ record { test = condition_test c; body = tree_block b } ∷ []

  pub tree_block : Block → List Stmt
  tree_block (inline x) = tree_simple x ∷ []
  tree_block (indented xs) = tree_statements xs

  pub tree_statements : Statements → List Stmt
  tree_statements (statements_one x) = tree_statement [] x ∷ []
  tree_statements (statements_more xs x) = tree_statements xs ++ tree_statement [] x ∷ []

-- the text of the tokens from one number up to another
abbrev pub Source : Type 0
Source = ℕ → ℕ → List ℕ

-- the trees at the top of a cell, in which each function has the text of its tokens
abbrev pub tree_top : Source → Statements → List Stmt
tree_top source (statements_one x) = tree_statement (source 0 (length (spell_statement x []))) x ∷ []
tree_top source (statements_more xs x) = tree_top source xs ++ tree_statement (source (length (spell_statements xs [])) (length (spell_statements xs (spell_statement x [])))) x ∷ []

abbrev pub tree_cell : Source → Cell → List Stmt
tree_cell source None = []
tree_cell source (Some xs) = tree_top source xs

-- these tokens are a cell with this tree
abbrev pub Reads : Source → List Kind → List Stmt → Type 0
Reads source tokens tree = (c : Cell) × IsCell tokens c × (tree_cell source c ≡ tree)

-- these tokens are a cell of one function alone, with this tree
pub record ReadsDefinition (source : Source) (tokens : List Kind) (tree : Stmt) : Type 0 where
  pub called : List ℕ
  pub takes : Params
  pub block : Block
  pub is_cell : IsCell tokens (Some (statements_one (compound (define called takes) block)))
  pub is_tree : tree_statement (source 0 (length (spell_statement (compound (define called takes) block) []))) (compound (define called takes) block) ≡ tree
