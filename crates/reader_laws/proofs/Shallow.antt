-- Whether a form has parts at a depth doesn't depend on what comes after it.
use Rattle.std.proofs.Common.{◌≡◌, ℕ, zero, suc, List, [], ◌∷◌, ◌++◌, refl}
use Rattle.py_token.specs.declared.kinds.Kind.{Kind}
use Rattle.py_grammar.specs.Expressions.{Expression, plain, conditional, Ors, ors_one, ors_more, Ands, ands_one, ands_more, Negation, compared, negated, Compares, compares_one, compares_more, compares_none, compares_not_none, Sums, sums_one, sums_more, Products, products_one, products_more, Signed, unsigned, signed, Primary, name, number, text, nothing, truth, falsity, empty, group, display, dict, call, index, slice, Exprs, single, tuple, tuple_comma, Callee, function, method, Bound, unbounded, bounded, Args, no_args, args, args_comma, Elements, elements_one, elements_more, Entries, no_entries, entries, entries_comma, Pairs, pairs_one, pairs_more}
use Rattle.py_grammar.specs.Statements.{Target, to_name, to_item, Places, places_one, places_more, Targets, targets, targets_comma, Simple, word, return_, give, declare, delete, assign, augment, show, Statement, simple, compound, Head, choose, otherwise, while_true, for_each, define, Condition, if_true, else_if, Branches, branches, Block, inline, indented, Statements, statements_one, statements_more}
use Rattle.py_grammar.specs.Depth.{at_expression, at_ors, in_ors, at_ands, in_ands, at_negation, at_compares, in_compares, at_sums, in_sums, at_products, in_products, at_signed, at_primary, at_exprs, in_callee, in_bound, in_args, in_elements, in_entries, in_pairs, in_target, in_places, in_targets, in_simple, at_simple, at_statement, in_head, in_condition, in_branches, in_block, in_statements}

pub left : (xs ys : List ℕ) → xs ++ ys ≡ [] → xs ≡ []
left [] ys e = refl
left (x ∷ xs) ys e = cc

pub right : (xs ys : List ℕ) → xs ++ ys ≡ [] → ys ≡ []
right [] ys e = e
right (x ∷ xs) ys e = cc

both : (xs ys us vs : List ℕ) → (xs ≡ [] → us ≡ []) → (ys ≡ [] → vs ≡ []) → xs ++ ys ≡ [] → us ++ vs ≡ []
both xs ys us vs f g e = nil us vs (f (left xs ys e)) (g (right xs ys e))
  where
    nil : (us vs : List ℕ) → us ≡ [] → vs ≡ [] → us ++ vs ≡ []
    nil [] vs h k = k
    nil (u ∷ us) vs h k = cc

-- ---- expressions

mutual
  expression : (x : Expression) (d : ℕ) (rest other : List Kind) → at_expression x rest d ≡ [] → at_expression x other d ≡ []
  expression (plain a) d rest other e = ors a d rest other e
  expression (conditional a test b) zero rest other e = cc
  expression (conditional a test b) (suc d) rest other e = both _ _ _ _ (both _ _ _ _ (ors a d _ _) (ors test d _ _)) (expression b d rest other) e

  ors : (x : Ors) (d : ℕ) (rest other : List Kind) → at_ors x rest d ≡ [] → at_ors x other d ≡ []
  ors (ors_one a) d rest other e = ands a d rest other e
  ors (ors_more b a) zero rest other e = cc
  ors (ors_more b a) (suc d) rest other e = both _ _ _ _ (ors-in b d _ _) (ands a d rest other) e

  ors-in : (x : Ors) (d : ℕ) (rest other : List Kind) → in_ors x rest d ≡ [] → in_ors x other d ≡ []
  ors-in (ors_one a) d rest other e = ands a d rest other e
  ors-in (ors_more b a) d rest other e = both _ _ _ _ (ors-in b d _ _) (ands a d rest other) e

  ands : (x : Ands) (d : ℕ) (rest other : List Kind) → at_ands x rest d ≡ [] → at_ands x other d ≡ []
  ands (ands_one a) d rest other e = negation a d rest other e
  ands (ands_more b a) zero rest other e = cc
  ands (ands_more b a) (suc d) rest other e = both _ _ _ _ (ands-in b d _ _) (negation a d rest other) e

  ands-in : (x : Ands) (d : ℕ) (rest other : List Kind) → in_ands x rest d ≡ [] → in_ands x other d ≡ []
  ands-in (ands_one a) d rest other e = negation a d rest other e
  ands-in (ands_more b a) d rest other e = both _ _ _ _ (ands-in b d _ _) (negation a d rest other) e

  negation : (x : Negation) (d : ℕ) (rest other : List Kind) → at_negation x rest d ≡ [] → at_negation x other d ≡ []
  negation (compared a) d rest other e = compares a d rest other e
  negation (negated a) zero rest other e = cc
  negation (negated a) (suc d) rest other e = negation a d rest other e

  compares : (x : Compares) (d : ℕ) (rest other : List Kind) → at_compares x rest d ≡ [] → at_compares x other d ≡ []
  compares (compares_one a) d rest other e = sums a d rest other e
  compares (compares_more c r a) zero rest other e = cc
  compares (compares_more c r a) (suc d) rest other e = both _ _ _ _ (compares-in c d _ _) (sums a d rest other) e
  compares (compares_none c) zero rest other e = cc
  compares (compares_none c) (suc d) rest other e = compares-in c d _ _ e
  compares (compares_not_none c) zero rest other e = cc
  compares (compares_not_none c) (suc d) rest other e = compares-in c d _ _ e

  compares-in : (x : Compares) (d : ℕ) (rest other : List Kind) → in_compares x rest d ≡ [] → in_compares x other d ≡ []
  compares-in (compares_one a) d rest other e = sums a d rest other e
  compares-in (compares_more c r a) d rest other e = both _ _ _ _ (compares-in c d _ _) (sums a d rest other) e
  compares-in (compares_none c) d rest other e = compares-in c d _ _ e
  compares-in (compares_not_none c) d rest other e = compares-in c d _ _ e

  sums : (x : Sums) (d : ℕ) (rest other : List Kind) → at_sums x rest d ≡ [] → at_sums x other d ≡ []
  sums (sums_one a) d rest other e = products a d rest other e
  sums (sums_more b s a) zero rest other e = cc
  sums (sums_more b s a) (suc d) rest other e = both _ _ _ _ (sums-in b d _ _) (products a d rest other) e

  sums-in : (x : Sums) (d : ℕ) (rest other : List Kind) → in_sums x rest d ≡ [] → in_sums x other d ≡ []
  sums-in (sums_one a) d rest other e = products a d rest other e
  sums-in (sums_more b s a) d rest other e = both _ _ _ _ (sums-in b d _ _) (products a d rest other) e

  products : (x : Products) (d : ℕ) (rest other : List Kind) → at_products x rest d ≡ [] → at_products x other d ≡ []
  products (products_one a) d rest other e = sign a d rest other e
  products (products_more b s a) zero rest other e = cc
  products (products_more b s a) (suc d) rest other e = both _ _ _ _ (products-in b d _ _) (sign a d rest other) e

  products-in : (x : Products) (d : ℕ) (rest other : List Kind) → in_products x rest d ≡ [] → in_products x other d ≡ []
  products-in (products_one a) d rest other e = sign a d rest other e
  products-in (products_more b s a) d rest other e = both _ _ _ _ (products-in b d _ _) (sign a d rest other) e

  sign : (x : Signed) (d : ℕ) (rest other : List Kind) → at_signed x rest d ≡ [] → at_signed x other d ≡ []
  sign (unsigned a) d rest other e = primary a d rest other e
  sign (signed s a) zero rest other e = cc
  sign (signed s a) (suc d) rest other e = sign a d rest other e

  primary : (x : Primary) (d : ℕ) (rest other : List Kind) → at_primary x rest d ≡ [] → at_primary x other d ≡ []
  primary (name m) zero rest other e = cc
  primary (name m) (suc d) rest other e = refl
  primary (number m) zero rest other e = cc
  primary (number m) (suc d) rest other e = refl
  primary (text m) zero rest other e = cc
  primary (text m) (suc d) rest other e = refl
  primary nothing zero rest other e = cc
  primary nothing (suc d) rest other e = refl
  primary truth zero rest other e = cc
  primary truth (suc d) rest other e = refl
  primary falsity zero rest other e = cc
  primary falsity (suc d) rest other e = refl
  primary empty zero rest other e = cc
  primary empty (suc d) rest other e = refl
  primary (group a) zero rest other e = cc
  primary (group a) (suc d) rest other e = exprs a d _ _ e
  primary (display a) zero rest other e = cc
  primary (display a) (suc d) rest other e = given a d _ _ e
  primary (dict a) zero rest other e = cc
  primary (dict a) (suc d) rest other e = entered a d _ _ e
  primary (call f a) zero rest other e = cc
  primary (call f a) (suc d) rest other e = both _ _ _ _ (callee f d _ _) (given a d _ _) e
  primary (index p a) zero rest other e = cc
  primary (index p a) (suc d) rest other e = both _ _ _ _ (primary p d _ _) (expression a d _ _) e
  primary (slice p a b) zero rest other e = cc
  primary (slice p a b) (suc d) rest other e = both _ _ _ _ (both _ _ _ _ (primary p d _ _) (bound a d _ _)) (bound b d _ _) e

  exprs : (x : Exprs) (d : ℕ) (rest other : List Kind) → at_exprs x rest d ≡ [] → at_exprs x other d ≡ []
  exprs (single a) d rest other e = expression a d rest other e
  exprs (tuple es a) zero rest other e = cc
  exprs (tuple es a) (suc d) rest other e = both _ _ _ _ (elements es d _ _) (expression a d rest other) e
  exprs (tuple_comma es) zero rest other e = cc
  exprs (tuple_comma es) (suc d) rest other e = elements es d _ _ e

  callee : (x : Callee) (d : ℕ) (rest other : List Kind) → in_callee x rest d ≡ [] → in_callee x other d ≡ []
  callee (function p) d rest other e = primary p d rest other e
  callee (method p m) d rest other e = primary p d _ _ e

  bound : (x : Bound) (d : ℕ) (rest other : List Kind) → in_bound x rest d ≡ [] → in_bound x other d ≡ []
  bound unbounded d rest other e = refl
  bound (bounded a) d rest other e = expression a d rest other e

  given : (x : Args) (d : ℕ) (rest other : List Kind) → in_args x rest d ≡ [] → in_args x other d ≡ []
  given no_args d rest other e = refl
  given (args es) d rest other e = elements es d rest other e
  given (args_comma es) d rest other e = elements es d _ _ e

  elements : (x : Elements) (d : ℕ) (rest other : List Kind) → in_elements x rest d ≡ [] → in_elements x other d ≡ []
  elements (elements_one a) d rest other e = expression a d rest other e
  elements (elements_more es a) d rest other e = both _ _ _ _ (elements es d _ _) (expression a d rest other) e

  entered : (x : Entries) (d : ℕ) (rest other : List Kind) → in_entries x rest d ≡ [] → in_entries x other d ≡ []
  entered no_entries d rest other e = refl
  entered (entries ps) d rest other e = pairs ps d rest other e
  entered (entries_comma ps) d rest other e = pairs ps d _ _ e

  pairs : (x : Pairs) (d : ℕ) (rest other : List Kind) → in_pairs x rest d ≡ [] → in_pairs x other d ≡ []
  pairs (pairs_one a b) d rest other e = both _ _ _ _ (expression a d _ _) (expression b d rest other) e
  pairs (pairs_more ps a b) d rest other e = both _ _ _ _ (both _ _ _ _ (pairs ps d _ _) (expression a d _ _)) (expression b d rest other) e

-- ---- statements

target : (x : Target) (d : ℕ) (rest other : List Kind) → in_target x rest d ≡ [] → in_target x other d ≡ []
target (to_name n) d rest other e = refl
target (to_item p a) d rest other e = both _ _ _ _ (primary p d _ _) (expression a d _ _) e

placed : (x : Places) (d : ℕ) (rest other : List Kind) → in_places x rest d ≡ [] → in_places x other d ≡ []
placed (places_one to) d rest other e = target to d rest other e
placed (places_more ps to) d rest other e = both _ _ _ _ (placed ps d _ _) (target to d rest other) e

assigned : (x : Targets) (d : ℕ) (rest other : List Kind) → in_targets x rest d ≡ [] → in_targets x other d ≡ []
assigned (targets ps) d rest other e = placed ps d rest other e
assigned (targets_comma ps) d rest other e = placed ps d _ _ e

stated : (x : Simple) (d : ℕ) (rest other : List Kind) → in_simple x rest d ≡ [] → in_simple x other d ≡ []
stated (word w) d rest other e = refl
stated return_ d rest other e = refl
stated (give a) d rest other e = exprs a d rest other e
stated (declare ns) d rest other e = refl
stated (delete to) d rest other e = target to d rest other e
stated (assign ts a) d rest other e = both _ _ _ _ (assigned ts d _ _) (exprs a d rest other) e
stated (augment to by a) d rest other e = both _ _ _ _ (target to d _ _) (exprs a d rest other) e
stated (show a) d rest other e = exprs a d rest other e

line : (x : Simple) (d : ℕ) (rest other : List Kind) → at_simple x rest d ≡ [] → at_simple x other d ≡ []
line x zero rest other e = cc
line x (suc d) rest other e = stated x d _ _ e

mutual
  pub statement : (x : Statement) (d : ℕ) (rest other : List Kind) → at_statement x rest d ≡ [] → at_statement x other d ≡ []
  statement (simple s) d rest other e = line s d rest other e
  statement (compound h b) zero rest other e = cc
  statement (compound h b) (suc d) rest other e = both _ _ _ _ (head h d _ _) (block b d rest other) e

  head : (x : Head) (d : ℕ) (rest other : List Kind) → in_head x rest d ≡ [] → in_head x other d ≡ []
  head (choose c) d rest other e = condition c d rest other e
  head (otherwise bs) d rest other e = branched bs d _ _ e
  head (while_true a) d rest other e = expression a d _ _ e
  head (for_each vs a) d rest other e = exprs a d _ _ e
  head (define n ps) d rest other e = refl

  condition : (x : Condition) (d : ℕ) (rest other : List Kind) → in_condition x rest d ≡ [] → in_condition x other d ≡ []
  condition (if_true a) d rest other e = expression a d _ _ e
  condition (else_if bs a) d rest other e = both _ _ _ _ (branched bs d _ _) (expression a d _ _) e

  branched : (x : Branches) (d : ℕ) (rest other : List Kind) → in_branches x rest d ≡ [] → in_branches x other d ≡ []
  branched (branches c b) d rest other e = both _ _ _ _ (condition c d _ _) (block b d rest other) e

  block : (x : Block) (d : ℕ) (rest other : List Kind) → in_block x rest d ≡ [] → in_block x other d ≡ []
  block (inline s) d rest other e = line s d rest other e
  block (indented ss) d rest other e = statements ss d _ _ e

  statements : (x : Statements) (d : ℕ) (rest other : List Kind) → in_statements x rest d ≡ [] → in_statements x other d ≡ []
  statements (statements_one s) d rest other e = statement s d rest other e
  statements (statements_more ss s) d rest other e = both _ _ _ _ (statements ss d _ _) (statement s d rest other) e
