-- Each name in the tree of a form is in the tokens that the form spells.
use Rattle.std.proofs.Common.{ℕ, List, [], ◌∷◌, ◌++◌, Some, None}
use Rattle.std.specs.List.{AllByRecursion}
use Rattle.py_tree.specs.declared.expressions.Expr.{Expr}
use Rattle.py_tree.specs.declared.statements.Def.{roll-Def}
use Rattle.py_tree.specs.declared.statements.Stmt.{Stmt}
use Rattle.py_token.specs.declared.kinds.Kind.{Kind}
use Rattle.py_token.specs.declared.kinds.Kind.TheVariants as t
use Rattle.py_grammar.specs.Expressions.{Expression, plain, conditional, Ors, ors_one, ors_more, Ands, ands_one, ands_more, Negation, compared, negated, Compares, compares_one, compares_more, compares_none, compares_not_none, Relational, equal, not_equal, less, at_most, greater, at_least, within, not_within, Sums, sums_one, sums_more, Products, products_one, products_more, Signed, unsigned, signed, Primary, name, number, text, nothing, truth, falsity, empty, group, display, dict, call, index, slice, Exprs, single, tuple, tuple_comma, Callee, function, method, Bound, unbounded, bounded, Args, no_args, args, args_comma, Elements, elements_one, elements_more, Entries, no_entries, entries, entries_comma, Pairs, pairs_one, pairs_more, spell_relational, spell_expression, spell_ors, spell_ands, spell_negation, spell_compares, spell_sums, spell_products, spell_signed, spell_primary, spell_exprs, spell_callee, spell_bound, spell_args, spell_elements, spell_entries, spell_pairs}
use Rattle.py_grammar.specs.Statements.{Target, to_name, to_item, Places, places_one, places_more, Targets, targets, targets_comma, Variables, variables, variables_comma, Names, names_one, names_more, pass_, break_, continue_, Simple, word, return_, give, declare, delete, assign, augment, show, spell_target, spell_places, spell_targets, spell_variables, spell_names, spell_simple, Params, no_params, params, params_comma, Statement, simple, compound, Head, choose, otherwise, while_true, for_each, define, Condition, if_true, else_if, Branches, branches, Block, inline, indented, Statements, statements_one, statements_more, spell_params, spell_statement, spell_head, spell_condition, spell_branches, spell_block, spell_statements}
use Rattle.py_grammar.specs.Trees.{Source, tree_expression, tree_ors, terms_ors, tree_ands, terms_ands, tree_negation, tree_compares, first_compared, relations, tree_sums, first_summed, summed, tree_products, first_multiplied, multiplied, tree_signed, tree_primary, tree_exprs, tree_call, tree_bound, tree_args, tree_elements, tree_entries, tree_pairs, tree_target, tree_places, tree_targets, tree_variables, tree_names, tree_params, tree_simple, tree_statement, tree_compound, arms_before, arms, tree_block, tree_statements, tree_top}
use Rattle.py_laws.specs.Mentioned.{if_names, names_at, names_of, names_by_def}
use Rattle.reader_laws.proofs.Made as made
use Rattle.reader_laws.proofs.Made.{Pass, Named, Nameds, Stated, Stateds, Arms}

pub push : {X : Type 0} (P : X → Type 0) (xs : List X) (x : X) → AllByRecursion P xs → P x → AllByRecursion P (xs ++ x ∷ [])
push P [] x h k = (k, tt)
push P (y ∷ ys) x h k = (h.0, push P ys x h.1 k)

module _ (Known : List ℕ → Type 0) where
  -- a name among the tokens is known
  abbrev pub IsKnown : Kind → Type 0
  IsKnown (t.Name n) = Known n
  IsKnown _ = Unit {0}

  abbrev pub AreKnown : List Kind → Type 0
  AreKnown = AllByRecursion IsKnown

  relational : (r : Relational) (rest : List Kind) → AreKnown (spell_relational r rest) → AreKnown rest
  relational equal rest h = h.1
  relational not_equal rest h = h.1
  relational less rest h = h.1
  relational at_most rest h = h.1
  relational greater rest h = h.1
  relational at_least rest h = h.1
  relational within rest h = h.1
  relational not_within rest h = h.1.1

  -- ---- trees of chains

  ors_tree : (x : Ors) → Nameds Known (terms_ors x) → Named Known (tree_ors x)
  ors_tree (ors_one a) h = h.0
  ors_tree (ors_more b a) h = made.of_or Known _ h

  ands_tree : (x : Ands) → Nameds Known (terms_ands x) → Named Known (tree_ands x)
  ands_tree (ands_one a) h = h.0
  ands_tree (ands_more b a) h = made.of_and Known _ h

  compares_tree : (x : Compares) → Named Known (first_compared x) → made.Relations Known (relations x) → Named Known (tree_compares x)
  compares_tree (compares_one a) h k = h
  compares_tree (compares_more c r a) h k = made.of_compare Known _ _ h k
  compares_tree (compares_none c) h k = made.of_compare Known _ _ h k
  compares_tree (compares_not_none c) h k = made.of_compare Known _ _ h k

  sums_tree : (x : Sums) → Named Known (first_summed x) → made.Operands Known (summed x) → Named Known (tree_sums x)
  sums_tree (sums_one a) h k = h
  sums_tree (sums_more b s a) h k = made.of_sum Known _ _ h k

  products_tree : (x : Products) → Named Known (first_multiplied x) → made.Operands Known (multiplied x) → Named Known (tree_products x)
  products_tree (products_one a) h k = h
  products_tree (products_more b s a) h k = made.of_product Known _ _ h k

  -- ---- expressions: the names of the tree, and the tokens after it

  mutual
    pub expression : (x : Expression) (rest : List Kind) → AreKnown (spell_expression x rest) → Named Known (tree_expression x) × AreKnown rest
    expression (plain a) rest h = let w = ors a rest h in (ors_tree a w.0, w.1)
    expression (conditional a test b) rest h =
        let u = ors a _ h in
        let v = ors test _ u.1.1 in
        let w = expression b rest v.1.1 in
        (made.of_conditional Known _ _ _ (ors_tree test v.0) (ors_tree a u.0) w.0, w.1)

    ors : (x : Ors) (rest : List Kind) → AreKnown (spell_ors x rest) → Nameds Known (terms_ors x) × AreKnown rest
    ors (ors_one a) rest h = let w = ands a rest h in ((ands_tree a w.0, tt), w.1)
    ors (ors_more b a) rest h =
        let u = ors b _ h in
        let w = ands a rest u.1.1 in
        (push (Named Known) (terms_ors b) _ u.0 (ands_tree a w.0), w.1)

    ands : (x : Ands) (rest : List Kind) → AreKnown (spell_ands x rest) → Nameds Known (terms_ands x) × AreKnown rest
    ands (ands_one a) rest h = let w = negation a rest h in ((w.0, tt), w.1)
    ands (ands_more b a) rest h =
        let u = ands b _ h in
        let w = negation a rest u.1.1 in
        (push (Named Known) (terms_ands b) _ u.0 w.0, w.1)

    negation : (x : Negation) (rest : List Kind) → AreKnown (spell_negation x rest) → Named Known (tree_negation x) × AreKnown rest
    negation (compared a) rest h = let w = compares a rest h in (compares_tree a w.0 w.1, w.2)
    negation (negated a) rest h = let w = negation a rest h.1 in (made.of_not Known _ w.0, w.1)

    compares : (x : Compares) (rest : List Kind) → AreKnown (spell_compares x rest) → Named Known (first_compared x) × made.Relations Known (relations x) × AreKnown rest
    compares (compares_one a) rest h = let w = sums a rest h in (sums_tree a w.0 w.1, tt, w.2)
    compares (compares_more c r a) rest h =
        let u = compares c _ h in
        let w = sums a rest (relational r _ u.2) in
        (u.0, push (made.OfRelation Known) (relations c) _ u.1 (made.of_relation Known _ _ (sums_tree a w.0 w.1)), w.2)
    compares (compares_none c) rest h = let u = compares c _ h in (u.0, push (made.OfRelation Known) (relations c) _ u.1 (made.of_is_none Known), u.2.1.1)
    compares (compares_not_none c) rest h = let u = compares c _ h in (u.0, push (made.OfRelation Known) (relations c) _ u.1 (made.of_is_not_none Known), u.2.1.1.1)

    sums : (x : Sums) (rest : List Kind) → AreKnown (spell_sums x rest) → Named Known (first_summed x) × made.Operands Known (summed x) × AreKnown rest
    sums (sums_one a) rest h = let w = products a rest h in (products_tree a w.0 w.1, tt, w.2)
    sums (sums_more b s a) rest h =
        let u = sums b _ h in
        let w = products a rest u.2.1 in
        (u.0, push (made.OfOperand Known) (summed b) _ u.1 (made.of_operand Known _ _ (products_tree a w.0 w.1)), w.2)

    products : (x : Products) (rest : List Kind) → AreKnown (spell_products x rest) → Named Known (first_multiplied x) × made.Operands Known (multiplied x) × AreKnown rest
    products (products_one a) rest h = let w = sign a rest h in (w.0, tt, w.1)
    products (products_more b s a) rest h =
        let u = products b _ h in
        let w = sign a rest u.2.1 in
        (u.0, push (made.OfOperand Known) (multiplied b) _ u.1 (made.of_operand Known _ _ w.0), w.1)

    sign : (x : Signed) (rest : List Kind) → AreKnown (spell_signed x rest) → Named Known (tree_signed x) × AreKnown rest
    sign (unsigned a) rest h = primary a rest h
    sign (signed s a) rest h = let w = sign a rest h.1 in (made.of_sign Known _ _ w.0, w.1)

    pub primary : (x : Primary) (rest : List Kind) → AreKnown (spell_primary x rest) → Named Known (tree_primary x) × AreKnown rest
    primary (name n) rest h = (made.of_name Known n h.0, h.1)
    primary (number n) rest h = (made.of_literal Known _, h.1)
    primary (text n) rest h = (made.of_literal Known _, h.1)
    primary nothing rest h = (made.of_literal Known _, h.1)
    primary truth rest h = (made.of_literal Known _, h.1)
    primary falsity rest h = (made.of_literal Known _, h.1)
    primary empty rest h = (made.of_tuple Known [] tt, h.1.1)
    primary (group a) rest h = let w = exprs a _ h.1 in (w.0, w.1.1)
    primary (display a) rest h = let w = given a _ h.1 in (made.of_list Known _ w.0, w.1.1)
    primary (dict a) rest h = let w = entered a _ h.1 in (made.of_dict Known _ w.0, w.1.1)
    primary (call f a) rest h =
        let u = callee f _ h in
        let w = given a _ u.1.1 in
        (u.0 _ w.0, w.1.1)
    primary (index p a) rest h =
        let u = primary p _ h in
        let w = expression a _ u.1.1 in
        (made.of_index Known _ _ u.0 w.0, w.1.1)
    primary (slice p a b) rest h =
        let u = primary p _ h in
        let v = bound a _ u.1.1 in
        let w = bound b _ v.1.1 in
        (made.of_slice Known _ _ _ u.0 v.0 w.0, w.1.1)

    exprs : (x : Exprs) (rest : List Kind) → AreKnown (spell_exprs x rest) → Named Known (tree_exprs x) × AreKnown rest
    exprs (single a) rest h = expression a rest h
    exprs (tuple es a) rest h =
        let u = elements es _ h in
        let w = expression a rest u.1.1 in
        (made.of_tuple Known _ (push (Named Known) (tree_elements es) _ u.0 w.0), w.1)
    exprs (tuple_comma es) rest h = let w = elements es _ h in (made.of_tuple Known _ w.0, w.1.1)

    callee : (x : Callee) (rest : List Kind) → AreKnown (spell_callee x rest) → ((xs : List Expr) → Nameds Known xs → Named Known (tree_call x xs)) × AreKnown rest
    callee (function p) rest h = let u = primary p _ h in (λ xs k. made.of_call Known _ xs u.0 k, u.1)
    callee (method p n) rest h = let u = primary p _ h in (λ xs k. made.of_method Known _ n xs u.0 u.1.1.0 k, u.1.1.1)

    bound : (x : Bound) (rest : List Kind) → AreKnown (spell_bound x rest) → Pass Known (if_names (tree_bound x)) × AreKnown rest
    bound unbounded rest h = (tt, h)
    bound (bounded a) rest h = expression a rest h

    given : (x : Args) (rest : List Kind) → AreKnown (spell_args x rest) → Nameds Known (tree_args x) × AreKnown rest
    given no_args rest h = (tt, h)
    given (args es) rest h = elements es rest h
    given (args_comma es) rest h = let w = elements es _ h in (w.0, w.1.1)

    elements : (x : Elements) (rest : List Kind) → AreKnown (spell_elements x rest) → Nameds Known (tree_elements x) × AreKnown rest
    elements (elements_one a) rest h = let w = expression a rest h in ((w.0, tt), w.1)
    elements (elements_more es a) rest h =
        let u = elements es _ h in
        let w = expression a rest u.1.1 in
        (push (Named Known) (tree_elements es) _ u.0 w.0, w.1)

    entered : (x : Entries) (rest : List Kind) → AreKnown (spell_entries x rest) → made.Pairs Known (tree_entries x) × AreKnown rest
    entered no_entries rest h = (tt, h)
    entered (entries ps) rest h = pairs ps rest h
    entered (entries_comma ps) rest h = let w = pairs ps _ h in (w.0, w.1.1)

    pairs : (x : Pairs) (rest : List Kind) → AreKnown (spell_pairs x rest) → made.Pairs Known (tree_pairs x) × AreKnown rest
    pairs (pairs_one a b) rest h =
        let u = expression a _ h in
        let w = expression b rest u.1.1 in
        ((made.of_pair Known _ _ u.0 w.0, tt), w.1)
    pairs (pairs_more ps a b) rest h =
        let v = pairs ps _ h in
        let u = expression a _ v.1.1 in
        let w = expression b rest u.1.1 in
        (push (made.OfPair Known) (tree_pairs ps) _ v.0 (made.of_pair Known _ _ u.0 w.0), w.1)

  -- ---- simple statements

  target : (x : Target) (rest : List Kind) → AreKnown (spell_target x rest) → Pass Known (names_at (tree_target x)) × AreKnown rest
  target (to_name n) rest h = ((h.0, tt), h.1)
  target (to_item p a) rest h =
      let u = primary p _ h in
      let w = expression a _ u.1.1 in
      (made.both Known (names_of (tree_primary p)) (names_of (tree_expression a)) u.0 w.0, w.1.1)

  placed : (x : Places) (rest : List Kind) → AreKnown (spell_places x rest) → made.Ats Known (tree_places x) × AreKnown rest
  placed (places_one to) rest h = let w = target to rest h in ((w.0, tt), w.1)
  placed (places_more ps to) rest h =
      let u = placed ps _ h in
      let w = target to rest u.1.1 in
      (push (made.At Known) (tree_places ps) _ u.0 w.0, w.1)

  pub assigned : (x : Targets) (rest : List Kind) → AreKnown (spell_targets x rest) → made.Ats Known (tree_targets x) × AreKnown rest
  assigned (targets ps) rest h = placed ps rest h
  assigned (targets_comma ps) rest h = let w = placed ps _ h in (w.0, w.1.1)

  listed : (x : Names) (rest : List Kind) → AreKnown (spell_names x rest) → Pass Known (tree_names x) × AreKnown rest
  listed (names_one n) rest h = ((h.0, tt), h.1)
  listed (names_more ns n) rest h = let u = listed ns _ h in (push Known (tree_names ns) n u.0 u.1.1.0, u.1.1.1)

  pub varied : (x : Variables) (rest : List Kind) → AreKnown (spell_variables x rest) → Pass Known (tree_variables x) × AreKnown rest
  varied (variables ns) rest h = listed ns rest h
  varied (variables_comma ns) rest h = let w = listed ns _ h in (w.0, w.1.1)

  taken : (x : Params) (rest : List Kind) → AreKnown (spell_params x rest) → Pass Known (tree_params x) × AreKnown rest
  taken no_params rest h = (tt, h)
  taken (params ns) rest h = listed ns rest h
  taken (params_comma ns) rest h = let w = listed ns _ h in (w.0, w.1.1)

  pub stated : (x : Simple) (rest : List Kind) → AreKnown (spell_simple x rest) → Stated Known (tree_simple x) × AreKnown rest
  stated (word pass_) rest h = (made.of_pass Known, h.1)
  stated (word break_) rest h = (made.of_break Known, h.1)
  stated (word continue_) rest h = (made.of_continue Known, h.1)
  stated return_ rest h = (made.of_return Known None tt, h.1)
  stated (give a) rest h = let w = exprs a rest h.1 in (made.of_return Known (Some (tree_exprs a)) w.0, w.1)
  stated (declare ns) rest h = let w = listed ns rest h.1 in (made.of_global Known _ w.0, w.1)
  stated (delete to) rest h = let w = target to rest h.1 in (made.of_delete Known _ w.0, w.1)
  stated (assign ts a) rest h =
      let u = assigned ts _ h in
      let w = exprs a rest u.1.1 in
      (made.of_assign Known _ _ _ u.0 w.0, w.1)
  stated (augment to by a) rest h =
      let u = target to _ h in
      let w = exprs a rest u.1.1 in
      (made.of_augment Known _ _ _ u.0 w.0, w.1)
  stated (show a) rest h = let w = exprs a rest h in (made.of_show Known _ w.0, w.1)

  -- ---- statements

  -- what a head makes of the statements of its block
  abbrev Heads : List ℕ → Head → Type 0
  Heads source x = (body : List Stmt) → Stateds Known body → Stated Known (tree_compound source x body)

  -- the test of a condition
  abbrev test_of : Condition → Expr
  test_of (if_true a) = tree_expression a
  test_of (else_if bs a) = tree_expression a

  chosen : (source : List ℕ) (x : Condition) (body : List Stmt) → Arms Known (arms_before x) → Named Known (test_of x) → Stateds Known body → Stated Known (tree_compound source (choose x) body)
  chosen source (if_true a) body h k l = made.of_if Known _ [] (made.of_arm Known _ body k l, tt) tt
  chosen source (else_if bs a) body h k l = made.of_if Known _ [] (push (made.OfArm Known) (arms bs) _ h (made.of_arm Known _ body k l)) tt

  branch_arms : (x : Condition) (b : Block) → Arms Known (arms_before x) → Named Known (test_of x) → Stateds Known (tree_block b) → Arms Known (arms (branches x b))
  branch_arms (if_true a) b h k l = (made.of_arm Known _ (tree_block b) k l, tt)
  branch_arms (else_if bs a) b h k l = push (made.OfArm Known) (arms bs) _ h (made.of_arm Known _ (tree_block b) k l)

  mutual
    pub statement : (source : List ℕ) (x : Statement) (rest : List Kind) → AreKnown (spell_statement x rest) → Stated Known (tree_statement source x) × AreKnown rest
    statement source (simple a) rest h = let w = stated a _ h in (w.0, w.1.1)
    statement source (compound hd b) rest h =
        let u = head source hd _ h in
        let w = block b rest u.1 in
        (u.0 (tree_block b) w.0, w.1)

    pub head : (source : List ℕ) (x : Head) (rest : List Kind) → AreKnown (spell_head x rest) → Heads source x × AreKnown rest
    head source (choose c) rest h = let w = condition c rest h in (λ body k. chosen source c body w.0 w.1 k, w.2)
    head source (otherwise bs) rest h = let w = branched bs _ h in (λ body k. made.of_if Known _ body w.0 k, w.1.1.1)
    head source (while_true a) rest h = let w = expression a _ h.1 in (λ body k. made.of_while Known _ body w.0 k, w.1.1)
    head source (for_each vs a) rest h =
        let u = varied vs _ h.1 in
        let w = exprs a _ u.1.1 in
        (λ body k. made.of_for Known _ _ _ body u.0 w.0 k, w.1.1)
    head source (define n ps) rest h =
        let w = taken ps _ h.1.1.1 in
        (λ body k. made.of_function Known _ (made.of_def Known n _ body source h.1.0 w.0 k), w.1.1.1)

    pub condition : (x : Condition) (rest : List Kind) → AreKnown (spell_condition x rest) → Arms Known (arms_before x) × Named Known (test_of x) × AreKnown rest
    condition (if_true a) rest h = let w = expression a _ h.1 in (tt, w.0, w.1.1)
    condition (else_if bs a) rest h =
        let u = branched bs _ h in
        let w = expression a _ u.1.1 in
        (u.0, w.0, w.1.1)

    pub branched : (x : Branches) (rest : List Kind) → AreKnown (spell_branches x rest) → Arms Known (arms x) × AreKnown rest
    branched (branches c b) rest h =
        let u = condition c _ h in
        let w = block b rest u.2 in
        (branch_arms c b u.0 u.1 w.0, w.1)

    pub block : (x : Block) (rest : List Kind) → AreKnown (spell_block x rest) → Stateds Known (tree_block x) × AreKnown rest
    block (inline a) rest h = let w = stated a _ h in ((w.0, tt), w.1.1)
    block (indented xs) rest h = let w = statements xs _ h.1.1 in (w.0, w.1.1)

    pub statements : (x : Statements) (rest : List Kind) → AreKnown (spell_statements x rest) → Stateds Known (tree_statements x) × AreKnown rest
    statements (statements_one a) rest h = let w = statement [] a rest h in ((w.0, tt), w.1)
    statements (statements_more xs a) rest h =
        let u = statements xs _ h in
        let w = statement [] a rest u.1 in
        (push (Stated Known) (tree_statements xs) _ u.0 w.0, w.1)

  -- ---- the top of a cell, and a function

  pub top : (source : Source) (x : Statements) (rest : List Kind) → AreKnown (spell_statements x rest) → Stateds Known (tree_top source x) × AreKnown rest
  top source (statements_one a) rest h = let w = statement _ a rest h in ((w.0, tt), w.1)
  top source (statements_more xs a) rest h =
      let u = top source xs _ h in
      let w = statement _ a rest u.1 in
      (push (Stated Known) (tree_top source xs) _ u.0 w.0, w.1)

  pub defined : (code called : List ℕ) (takes : Params) (b : Block) (rest : List Kind) → AreKnown (spell_statement (compound (define called takes) b) rest)
      → Pass Known (names_by_def (roll-Def (record { name = called; params = tree_params takes; body = tree_block b; source = code })))
  defined code called takes b rest h =
      let u = taken takes _ h.1.1.1 in
      let w = block b rest u.1.1.1 in
      made.of_def Known called _ _ code h.1.0 u.0 w.0
