-- The tree that is kept of a part that isn't too deep is its tree.
use Rattle.std.proofs.Common.{◌≡◌, ℕ, ◌<◌, ◌≤◌, true, nat_lt, List, [], ◌∷◌, length, refl, arith}
use Rattle.py_token.specs.declared.kinds.Kind.{Kind}
use Rattle.py_tree.specs.declared.expressions.Expr.{Expr}
use Rattle.py_grammar.specs.Words.{and_word, or_word, not_word, if_word, else_word, is_word, none_word, open_parenthesis, close_parenthesis, open_bracket, close_bracket, close_brace, colon, comma, dot}
use Rattle.py_grammar.specs.Expressions.{Expression, plain, conditional, Ors, ors_one, ors_more, Ands, ands_one, ands_more, Negation, compared, negated, Compares, compares_one, compares_more, compares_none, compares_not_none, Sums, sums_one, sums_more, Products, products_one, products_more, Signed, unsigned, signed, Primary, name, number, text, nothing, truth, falsity, empty, group, display, dict, call, index, slice, Exprs, single, tuple, tuple_comma, Callee, function, method, Bound, unbounded, bounded, Args, no_args, args, args_comma, Elements, elements_one, elements_more, Entries, no_entries, entries, entries_comma, Pairs, pairs_one, pairs_more, spell_relational, additive_sign, multiplicative_sign, spell_expression, spell_ors, spell_ands, spell_negation, spell_sums, spell_products, spell_signed, spell_primary, spell_exprs, spell_bound, spell_args}
use Rattle.py_grammar.specs.Trees as m
use Rattle.py_token.specs.declared.kinds.Kind.TheVariants as t
use Rattle.py_grammar.specs.Trees.{tree_expression, tree_ors, tree_ands, tree_negation, tree_compares, tree_sums, tree_products, tree_signed, tree_primary, tree_exprs, tree_call, tree_bound, tree_args, tree_elements, tree_entries, tree_pairs}
use Rattle.py_frames.specs.Values.{beside}
use Rattle.py_frames.specs.Under.{all, under_expression, under_ors, inner_ors, under_ands, inner_ands, under_negation, under_compares, inner_compares, under_sums, inner_sums, under_products, inner_products, under_signed, under_primary, under_exprs, inner_callee, inner_bound, inner_args, inner_elements, inner_entries, inner_pairs}
use Rattle.py_frames.specs.Kept as k
use Rattle.py_frames.specs.Kept.{kept_expression, kept_ors, kept_ands, kept_negation, kept_compares, kept_sums, kept_products, kept_signed, kept_primary, kept_exprs, kept_call, kept_bound, kept_args, kept_elements, kept_entries, kept_pairs}

left-shorter : (p q : List ℕ) → length p ≤ length (beside p q)
left-shorter [] q = omega arith
left-shorter (x ∷ p) [] = omega arith
left-shorter (x ∷ p) (y ∷ q) = let h = left-shorter p q in omega arith

right-shorter : (p q : List ℕ) → length q ≤ length (beside p q)
right-shorter [] q = omega arith
right-shorter (x ∷ p) [] = omega arith
right-shorter (x ∷ p) (y ∷ q) = let h = right-shorter p q in omega arith

pub left-less : (p q : List ℕ) (n : ℕ) → length (beside p q) < n → length p < n
left-less p q n h = omega (arith, left-shorter p q, h)

pub right-less : (p q : List ℕ) (n : ℕ) → length (beside p q) < n → length q < n
right-less p q n h = omega (arith, right-shorter p q, h)

pub less-test : (n : ℕ) → n < 64 → nat_lt n 64 ≡ true
less-test n h = grind arith

module _ (place : ℕ → ℕ) where
  -- what is beside something, or in a part, isn't deeper
  in-less : (tokens : List Kind) (p : List ℕ) → length (all place tokens p) < 64 → length p < 64
  in-less tokens p h = omega (arith, h)

  less-bound : (left : List ℕ) (b : Bound) (rest : List Kind) → length (inner_bound place left b rest) < 64 → length left < 64
  less-bound left unbounded rest h = h
  less-bound left (bounded a) rest h = left-less left (all place (spell_expression a rest) (under_expression place a rest)) 64 h

  less-elements : (left : List ℕ) (es : Elements) (rest : List Kind) → length (inner_elements place left es rest) < 64 → length left < 64
  less-elements left (elements_one a) rest h = left-less left (all place (spell_expression a rest) (under_expression place a rest)) 64 h
  less-elements left (elements_more es a) rest h = less-elements left es (comma ∷ spell_expression a rest) (left-less (inner_elements place left es (comma ∷ spell_expression a rest)) (all place (spell_expression a rest) (under_expression place a rest)) 64 h)

  less-args : (left : List ℕ) (a : Args) (rest : List Kind) → length (inner_args place left a rest) < 64 → length left < 64
  less-args left no_args rest h = h
  less-args left (args es) rest h = less-elements left es _ h
  less-args left (args_comma es) rest h = less-elements left es (comma ∷ rest) h

  mutual
    pub expression-kept : (a : Expression) (rest : List Kind) → length (under_expression place a rest) < 64 → kept_expression place a rest ≡ tree_expression a
    expression-kept (plain a) rest h = ors-kept a rest h
    expression-kept (conditional a test b) rest h = rw (less-test (length (beside (beside (all place (spell_ors a (if_word ∷ spell_ors test (else_word ∷ spell_expression b rest))) (under_ors place a (if_word ∷ spell_ors test (else_word ∷ spell_expression b rest)))) (all place (spell_ors test (else_word ∷ spell_expression b rest)) (under_ors place test (else_word ∷ spell_expression b rest)))) (all place (spell_expression b rest) (under_expression place b rest)))) h) (let x0 = ors-kept a (if_word ∷ spell_ors test (else_word ∷ spell_expression b rest)) (in-less (spell_ors a (if_word ∷ spell_ors test (else_word ∷ spell_expression b rest))) (under_ors place a (if_word ∷ spell_ors test (else_word ∷ spell_expression b rest))) (left-less (all place (spell_ors a (if_word ∷ spell_ors test (else_word ∷ spell_expression b rest))) (under_ors place a (if_word ∷ spell_ors test (else_word ∷ spell_expression b rest)))) (all place (spell_ors test (else_word ∷ spell_expression b rest)) (under_ors place test (else_word ∷ spell_expression b rest))) 64 (left-less (beside (all place (spell_ors a (if_word ∷ spell_ors test (else_word ∷ spell_expression b rest))) (under_ors place a (if_word ∷ spell_ors test (else_word ∷ spell_expression b rest)))) (all place (spell_ors test (else_word ∷ spell_expression b rest)) (under_ors place test (else_word ∷ spell_expression b rest)))) (all place (spell_expression b rest) (under_expression place b rest)) 64 h))) in let x1 = ors-kept test (else_word ∷ spell_expression b rest) (in-less (spell_ors test (else_word ∷ spell_expression b rest)) (under_ors place test (else_word ∷ spell_expression b rest)) (right-less (all place (spell_ors a (if_word ∷ spell_ors test (else_word ∷ spell_expression b rest))) (under_ors place a (if_word ∷ spell_ors test (else_word ∷ spell_expression b rest)))) (all place (spell_ors test (else_word ∷ spell_expression b rest)) (under_ors place test (else_word ∷ spell_expression b rest))) 64 (left-less (beside (all place (spell_ors a (if_word ∷ spell_ors test (else_word ∷ spell_expression b rest))) (under_ors place a (if_word ∷ spell_ors test (else_word ∷ spell_expression b rest)))) (all place (spell_ors test (else_word ∷ spell_expression b rest)) (under_ors place test (else_word ∷ spell_expression b rest)))) (all place (spell_expression b rest) (under_expression place b rest)) 64 h))) in let x2 = expression-kept b rest (in-less (spell_expression b rest) (under_expression place b rest) (right-less (beside (all place (spell_ors a (if_word ∷ spell_ors test (else_word ∷ spell_expression b rest))) (under_ors place a (if_word ∷ spell_ors test (else_word ∷ spell_expression b rest)))) (all place (spell_ors test (else_word ∷ spell_expression b rest)) (under_ors place test (else_word ∷ spell_expression b rest)))) (all place (spell_expression b rest) (under_expression place b rest)) 64 h)) in cc)

    pub ors-kept : (a : Ors) (rest : List Kind) → length (under_ors place a rest) < 64 → kept_ors place a rest ≡ tree_ors a
    ors-kept (ors_one a) rest h = ands-kept a rest h
    ors-kept (ors_more b a) rest h = rw (less-test (length (beside (inner_ors place b (or_word ∷ spell_ands a rest)) (all place (spell_ands a rest) (under_ands place a rest)))) h) (let x0 = ors-terms b (or_word ∷ spell_ands a rest) (left-less (inner_ors place b (or_word ∷ spell_ands a rest)) (all place (spell_ands a rest) (under_ands place a rest)) 64 h) in let x1 = ands-kept a rest (in-less (spell_ands a rest) (under_ands place a rest) (right-less (inner_ors place b (or_word ∷ spell_ands a rest)) (all place (spell_ands a rest) (under_ands place a rest)) 64 h)) in cc)

    ors-terms : (a : Ors) (rest : List Kind) → length (inner_ors place a rest) < 64 → k.terms_ors place a rest ≡ m.terms_ors a
    ors-terms (ors_one a) rest h = let x0 = ands-kept a rest (in-less (spell_ands a rest) (under_ands place a rest) h) in cc
    ors-terms (ors_more b a) rest h = let x0 = ors-terms b (or_word ∷ spell_ands a rest) (left-less (inner_ors place b (or_word ∷ spell_ands a rest)) (all place (spell_ands a rest) (under_ands place a rest)) 64 h) in let x1 = ands-kept a rest (in-less (spell_ands a rest) (under_ands place a rest) (right-less (inner_ors place b (or_word ∷ spell_ands a rest)) (all place (spell_ands a rest) (under_ands place a rest)) 64 h)) in cc

    pub ands-kept : (a : Ands) (rest : List Kind) → length (under_ands place a rest) < 64 → kept_ands place a rest ≡ tree_ands a
    ands-kept (ands_one a) rest h = negation-kept a rest h
    ands-kept (ands_more b a) rest h = rw (less-test (length (beside (inner_ands place b (and_word ∷ spell_negation a rest)) (all place (spell_negation a rest) (under_negation place a rest)))) h) (let x0 = ands-terms b (and_word ∷ spell_negation a rest) (left-less (inner_ands place b (and_word ∷ spell_negation a rest)) (all place (spell_negation a rest) (under_negation place a rest)) 64 h) in let x1 = negation-kept a rest (in-less (spell_negation a rest) (under_negation place a rest) (right-less (inner_ands place b (and_word ∷ spell_negation a rest)) (all place (spell_negation a rest) (under_negation place a rest)) 64 h)) in cc)

    ands-terms : (a : Ands) (rest : List Kind) → length (inner_ands place a rest) < 64 → k.terms_ands place a rest ≡ m.terms_ands a
    ands-terms (ands_one a) rest h = let x0 = negation-kept a rest (in-less (spell_negation a rest) (under_negation place a rest) h) in cc
    ands-terms (ands_more b a) rest h = let x0 = ands-terms b (and_word ∷ spell_negation a rest) (left-less (inner_ands place b (and_word ∷ spell_negation a rest)) (all place (spell_negation a rest) (under_negation place a rest)) 64 h) in let x1 = negation-kept a rest (in-less (spell_negation a rest) (under_negation place a rest) (right-less (inner_ands place b (and_word ∷ spell_negation a rest)) (all place (spell_negation a rest) (under_negation place a rest)) 64 h)) in cc

    pub negation-kept : (a : Negation) (rest : List Kind) → length (under_negation place a rest) < 64 → kept_negation place a rest ≡ tree_negation a
    negation-kept (compared a) rest h = compares-kept a rest h
    negation-kept (negated a) rest h = rw (less-test (length (all place (spell_negation a rest) (under_negation place a rest))) h) (let x0 = negation-kept a rest (in-less (spell_negation a rest) (under_negation place a rest) h) in cc)

    pub compares-kept : (a : Compares) (rest : List Kind) → length (under_compares place a rest) < 64 → kept_compares place a rest ≡ tree_compares a
    compares-kept (compares_one a) rest h = sums-kept a rest h
    compares-kept (compares_more c r a) rest h = rw (less-test (length (beside (inner_compares place c (spell_relational r (spell_sums a rest))) (all place (spell_sums a rest) (under_sums place a rest)))) h) (let x0 = compares-first c (spell_relational r (spell_sums a rest)) (left-less (inner_compares place c (spell_relational r (spell_sums a rest))) (all place (spell_sums a rest) (under_sums place a rest)) 64 h) in let x1 = compares-relations c (spell_relational r (spell_sums a rest)) (left-less (inner_compares place c (spell_relational r (spell_sums a rest))) (all place (spell_sums a rest) (under_sums place a rest)) 64 h) in let x2 = sums-kept a rest (in-less (spell_sums a rest) (under_sums place a rest) (right-less (inner_compares place c (spell_relational r (spell_sums a rest))) (all place (spell_sums a rest) (under_sums place a rest)) 64 h)) in cc)
    compares-kept (compares_none c) rest h = rw (less-test (length (inner_compares place c (is_word ∷ none_word ∷ rest))) h) (let x0 = compares-first c (is_word ∷ none_word ∷ rest) h in let x1 = compares-relations c (is_word ∷ none_word ∷ rest) h in cc)
    compares-kept (compares_not_none c) rest h = rw (less-test (length (inner_compares place c (is_word ∷ not_word ∷ none_word ∷ rest))) h) (let x0 = compares-first c (is_word ∷ not_word ∷ none_word ∷ rest) h in let x1 = compares-relations c (is_word ∷ not_word ∷ none_word ∷ rest) h in cc)

    compares-first : (a : Compares) (rest : List Kind) → length (inner_compares place a rest) < 64 → k.first_compared place a rest ≡ m.first_compared a
    compares-first (compares_one a) rest h = sums-kept a rest (in-less (spell_sums a rest) (under_sums place a rest) h)
    compares-first (compares_more c r a) rest h = compares-first c (spell_relational r (spell_sums a rest)) (left-less (inner_compares place c (spell_relational r (spell_sums a rest))) (all place (spell_sums a rest) (under_sums place a rest)) 64 h)
    compares-first (compares_none c) rest h = compares-first c (is_word ∷ none_word ∷ rest) h
    compares-first (compares_not_none c) rest h = compares-first c (is_word ∷ not_word ∷ none_word ∷ rest) h

    compares-relations : (a : Compares) (rest : List Kind) → length (inner_compares place a rest) < 64 → k.relations place a rest ≡ m.relations a
    compares-relations (compares_one a) rest h = refl
    compares-relations (compares_more c r a) rest h = let x0 = compares-relations c (spell_relational r (spell_sums a rest)) (left-less (inner_compares place c (spell_relational r (spell_sums a rest))) (all place (spell_sums a rest) (under_sums place a rest)) 64 h) in let x1 = sums-kept a rest (in-less (spell_sums a rest) (under_sums place a rest) (right-less (inner_compares place c (spell_relational r (spell_sums a rest))) (all place (spell_sums a rest) (under_sums place a rest)) 64 h)) in cc
    compares-relations (compares_none c) rest h = let x0 = compares-relations c (is_word ∷ none_word ∷ rest) h in cc
    compares-relations (compares_not_none c) rest h = let x0 = compares-relations c (is_word ∷ not_word ∷ none_word ∷ rest) h in cc

    pub sums-kept : (a : Sums) (rest : List Kind) → length (under_sums place a rest) < 64 → kept_sums place a rest ≡ tree_sums a
    sums-kept (sums_one a) rest h = products-kept a rest h
    sums-kept (sums_more b s a) rest h = rw (less-test (length (beside (inner_sums place b (additive_sign s ∷ spell_products a rest)) (all place (spell_products a rest) (under_products place a rest)))) h) (let x0 = sums-first b (additive_sign s ∷ spell_products a rest) (left-less (inner_sums place b (additive_sign s ∷ spell_products a rest)) (all place (spell_products a rest) (under_products place a rest)) 64 h) in let x1 = sums-rest b (additive_sign s ∷ spell_products a rest) (left-less (inner_sums place b (additive_sign s ∷ spell_products a rest)) (all place (spell_products a rest) (under_products place a rest)) 64 h) in let x2 = products-kept a rest (in-less (spell_products a rest) (under_products place a rest) (right-less (inner_sums place b (additive_sign s ∷ spell_products a rest)) (all place (spell_products a rest) (under_products place a rest)) 64 h)) in cc)

    sums-first : (a : Sums) (rest : List Kind) → length (inner_sums place a rest) < 64 → k.first_summed place a rest ≡ m.first_summed a
    sums-first (sums_one a) rest h = products-kept a rest (in-less (spell_products a rest) (under_products place a rest) h)
    sums-first (sums_more b s a) rest h = sums-first b (additive_sign s ∷ spell_products a rest) (left-less (inner_sums place b (additive_sign s ∷ spell_products a rest)) (all place (spell_products a rest) (under_products place a rest)) 64 h)

    sums-rest : (a : Sums) (rest : List Kind) → length (inner_sums place a rest) < 64 → k.summed place a rest ≡ m.summed a
    sums-rest (sums_one a) rest h = refl
    sums-rest (sums_more b s a) rest h = let x0 = sums-rest b (additive_sign s ∷ spell_products a rest) (left-less (inner_sums place b (additive_sign s ∷ spell_products a rest)) (all place (spell_products a rest) (under_products place a rest)) 64 h) in let x1 = products-kept a rest (in-less (spell_products a rest) (under_products place a rest) (right-less (inner_sums place b (additive_sign s ∷ spell_products a rest)) (all place (spell_products a rest) (under_products place a rest)) 64 h)) in cc

    pub products-kept : (a : Products) (rest : List Kind) → length (under_products place a rest) < 64 → kept_products place a rest ≡ tree_products a
    products-kept (products_one a) rest h = signed-kept a rest h
    products-kept (products_more b s a) rest h = rw (less-test (length (beside (inner_products place b (multiplicative_sign s ∷ spell_signed a rest)) (all place (spell_signed a rest) (under_signed place a rest)))) h) (let x0 = products-first b (multiplicative_sign s ∷ spell_signed a rest) (left-less (inner_products place b (multiplicative_sign s ∷ spell_signed a rest)) (all place (spell_signed a rest) (under_signed place a rest)) 64 h) in let x1 = products-rest b (multiplicative_sign s ∷ spell_signed a rest) (left-less (inner_products place b (multiplicative_sign s ∷ spell_signed a rest)) (all place (spell_signed a rest) (under_signed place a rest)) 64 h) in let x2 = signed-kept a rest (in-less (spell_signed a rest) (under_signed place a rest) (right-less (inner_products place b (multiplicative_sign s ∷ spell_signed a rest)) (all place (spell_signed a rest) (under_signed place a rest)) 64 h)) in cc)

    products-first : (a : Products) (rest : List Kind) → length (inner_products place a rest) < 64 → k.first_multiplied place a rest ≡ m.first_multiplied a
    products-first (products_one a) rest h = signed-kept a rest (in-less (spell_signed a rest) (under_signed place a rest) h)
    products-first (products_more b s a) rest h = products-first b (multiplicative_sign s ∷ spell_signed a rest) (left-less (inner_products place b (multiplicative_sign s ∷ spell_signed a rest)) (all place (spell_signed a rest) (under_signed place a rest)) 64 h)

    products-rest : (a : Products) (rest : List Kind) → length (inner_products place a rest) < 64 → k.multiplied place a rest ≡ m.multiplied a
    products-rest (products_one a) rest h = refl
    products-rest (products_more b s a) rest h = let x0 = products-rest b (multiplicative_sign s ∷ spell_signed a rest) (left-less (inner_products place b (multiplicative_sign s ∷ spell_signed a rest)) (all place (spell_signed a rest) (under_signed place a rest)) 64 h) in let x1 = signed-kept a rest (in-less (spell_signed a rest) (under_signed place a rest) (right-less (inner_products place b (multiplicative_sign s ∷ spell_signed a rest)) (all place (spell_signed a rest) (under_signed place a rest)) 64 h)) in cc

    pub signed-kept : (a : Signed) (rest : List Kind) → length (under_signed place a rest) < 64 → kept_signed place a rest ≡ tree_signed a
    signed-kept (unsigned a) rest h = primary-kept a rest h
    signed-kept (signed s a) rest h = rw (less-test (length (all place (spell_signed a rest) (under_signed place a rest))) h) (let x0 = signed-kept a rest (in-less (spell_signed a rest) (under_signed place a rest) h) in cc)

    pub primary-kept : (a : Primary) (rest : List Kind) → length (under_primary place a rest) < 64 → kept_primary place a rest ≡ tree_primary a
    primary-kept (name m) rest h = refl
    primary-kept (number m) rest h = refl
    primary-kept (text m) rest h = refl
    primary-kept nothing rest h = refl
    primary-kept truth rest h = refl
    primary-kept falsity rest h = refl
    primary-kept empty rest h = refl
    primary-kept (group a) rest h = rw (less-test (length (all place (spell_exprs a (close_parenthesis ∷ rest)) (under_exprs place a (close_parenthesis ∷ rest)))) h) (let x0 = exprs-kept a (close_parenthesis ∷ rest) (in-less (spell_exprs a (close_parenthesis ∷ rest)) (under_exprs place a (close_parenthesis ∷ rest)) h) in cc)
    primary-kept (display a) rest h = rw (less-test (length (inner_args place [] a (close_bracket ∷ rest))) h) (let x0 = args-kept [] a (close_bracket ∷ rest) h in cc)
    primary-kept (dict a) rest h = rw (less-test (length (inner_entries place a (close_brace ∷ rest))) h) (let x0 = entries-kept a (close_brace ∷ rest) h in cc)
    primary-kept (call f a) rest h = rw (less-test (length (inner_args place (inner_callee place f (open_parenthesis ∷ spell_args a (close_parenthesis ∷ rest))) a (close_parenthesis ∷ rest))) h) (let x0 = args-kept (inner_callee place f (open_parenthesis ∷ spell_args a (close_parenthesis ∷ rest))) a (close_parenthesis ∷ rest) h in callee-kept f (open_parenthesis ∷ spell_args a (close_parenthesis ∷ rest)) _ _ (less-args (inner_callee place f (open_parenthesis ∷ spell_args a (close_parenthesis ∷ rest))) a (close_parenthesis ∷ rest) h) x0)
    primary-kept (index p a) rest h = rw (less-test (length (beside (all place (spell_primary p (open_bracket ∷ spell_expression a (close_bracket ∷ rest))) (under_primary place p (open_bracket ∷ spell_expression a (close_bracket ∷ rest)))) (all place (spell_expression a (close_bracket ∷ rest)) (under_expression place a (close_bracket ∷ rest))))) h) (let x0 = primary-kept p (open_bracket ∷ spell_expression a (close_bracket ∷ rest)) (in-less (spell_primary p (open_bracket ∷ spell_expression a (close_bracket ∷ rest))) (under_primary place p (open_bracket ∷ spell_expression a (close_bracket ∷ rest))) (left-less (all place (spell_primary p (open_bracket ∷ spell_expression a (close_bracket ∷ rest))) (under_primary place p (open_bracket ∷ spell_expression a (close_bracket ∷ rest)))) (all place (spell_expression a (close_bracket ∷ rest)) (under_expression place a (close_bracket ∷ rest))) 64 h)) in let x1 = expression-kept a (close_bracket ∷ rest) (in-less (spell_expression a (close_bracket ∷ rest)) (under_expression place a (close_bracket ∷ rest)) (right-less (all place (spell_primary p (open_bracket ∷ spell_expression a (close_bracket ∷ rest))) (under_primary place p (open_bracket ∷ spell_expression a (close_bracket ∷ rest)))) (all place (spell_expression a (close_bracket ∷ rest)) (under_expression place a (close_bracket ∷ rest))) 64 h)) in cc)
    primary-kept (slice p a b) rest h = rw (less-test (length (inner_bound place (inner_bound place (all place (spell_primary p (open_bracket ∷ spell_bound a (colon ∷ spell_bound b (close_bracket ∷ rest)))) (under_primary place p (open_bracket ∷ spell_bound a (colon ∷ spell_bound b (close_bracket ∷ rest))))) a (colon ∷ spell_bound b (close_bracket ∷ rest))) b (close_bracket ∷ rest))) h) (let x0 = primary-kept p (open_bracket ∷ spell_bound a (colon ∷ spell_bound b (close_bracket ∷ rest))) (in-less (spell_primary p (open_bracket ∷ spell_bound a (colon ∷ spell_bound b (close_bracket ∷ rest)))) (under_primary place p (open_bracket ∷ spell_bound a (colon ∷ spell_bound b (close_bracket ∷ rest)))) (less-bound (all place (spell_primary p (open_bracket ∷ spell_bound a (colon ∷ spell_bound b (close_bracket ∷ rest)))) (under_primary place p (open_bracket ∷ spell_bound a (colon ∷ spell_bound b (close_bracket ∷ rest))))) a (colon ∷ spell_bound b (close_bracket ∷ rest)) (less-bound (inner_bound place (all place (spell_primary p (open_bracket ∷ spell_bound a (colon ∷ spell_bound b (close_bracket ∷ rest)))) (under_primary place p (open_bracket ∷ spell_bound a (colon ∷ spell_bound b (close_bracket ∷ rest))))) a (colon ∷ spell_bound b (close_bracket ∷ rest))) b (close_bracket ∷ rest) h))) in let x1 = bound-kept (all place (spell_primary p (open_bracket ∷ spell_bound a (colon ∷ spell_bound b (close_bracket ∷ rest)))) (under_primary place p (open_bracket ∷ spell_bound a (colon ∷ spell_bound b (close_bracket ∷ rest))))) a (colon ∷ spell_bound b (close_bracket ∷ rest)) (less-bound (inner_bound place (all place (spell_primary p (open_bracket ∷ spell_bound a (colon ∷ spell_bound b (close_bracket ∷ rest)))) (under_primary place p (open_bracket ∷ spell_bound a (colon ∷ spell_bound b (close_bracket ∷ rest))))) a (colon ∷ spell_bound b (close_bracket ∷ rest))) b (close_bracket ∷ rest) h) in let x2 = bound-kept (inner_bound place (all place (spell_primary p (open_bracket ∷ spell_bound a (colon ∷ spell_bound b (close_bracket ∷ rest)))) (under_primary place p (open_bracket ∷ spell_bound a (colon ∷ spell_bound b (close_bracket ∷ rest))))) a (colon ∷ spell_bound b (close_bracket ∷ rest))) b (close_bracket ∷ rest) h in cc)

    pub exprs-kept : (a : Exprs) (rest : List Kind) → length (under_exprs place a rest) < 64 → kept_exprs place a rest ≡ tree_exprs a
    exprs-kept (single a) rest h = expression-kept a rest h
    exprs-kept (tuple es a) rest h = rw (less-test (length (beside (inner_elements place [] es (comma ∷ spell_expression a rest)) (all place (spell_expression a rest) (under_expression place a rest)))) h) (let x0 = elements-kept [] es (comma ∷ spell_expression a rest) (left-less (inner_elements place [] es (comma ∷ spell_expression a rest)) (all place (spell_expression a rest) (under_expression place a rest)) 64 h) in let x1 = expression-kept a rest (in-less (spell_expression a rest) (under_expression place a rest) (right-less (inner_elements place [] es (comma ∷ spell_expression a rest)) (all place (spell_expression a rest) (under_expression place a rest)) 64 h)) in cc)
    exprs-kept (tuple_comma es) rest h = rw (less-test (length (inner_elements place [] es (comma ∷ rest))) h) (let x0 = elements-kept [] es (comma ∷ rest) h in cc)

    callee-kept : (f : Callee) (rest : List Kind) (given taken : List Expr) → length (inner_callee place f rest) < 64 → given ≡ taken → kept_call place f rest given ≡ tree_call f taken
    callee-kept (function p) rest given taken h x = let x0 = primary-kept p rest (in-less (spell_primary p rest) (under_primary place p rest) h) in cc
    callee-kept (method p m) rest given taken h x = let x0 = primary-kept p (dot ∷ t.Name m ∷ rest) (in-less (spell_primary p (dot ∷ t.Name m ∷ rest)) (under_primary place p (dot ∷ t.Name m ∷ rest)) h) in cc

    bound-kept : (left : List ℕ) (a : Bound) (rest : List Kind) → length (inner_bound place left a rest) < 64 → kept_bound place a rest ≡ tree_bound a
    bound-kept left unbounded rest h = refl
    bound-kept left (bounded a) rest h = let x0 = expression-kept a rest (in-less (spell_expression a rest) (under_expression place a rest) (right-less left (all place (spell_expression a rest) (under_expression place a rest)) 64 h)) in cc

    args-kept : (left : List ℕ) (a : Args) (rest : List Kind) → length (inner_args place left a rest) < 64 → kept_args place a rest ≡ tree_args a
    args-kept left no_args rest h = refl
    args-kept left (args es) rest h = elements-kept left es rest h
    args-kept left (args_comma es) rest h = elements-kept left es (comma ∷ rest) h

    elements-kept : (left : List ℕ) (a : Elements) (rest : List Kind) → length (inner_elements place left a rest) < 64 → kept_elements place a rest ≡ tree_elements a
    elements-kept left (elements_one a) rest h = let x0 = expression-kept a rest (in-less (spell_expression a rest) (under_expression place a rest) (right-less left (all place (spell_expression a rest) (under_expression place a rest)) 64 h)) in cc
    elements-kept left (elements_more es a) rest h = let x0 = elements-kept left es (comma ∷ spell_expression a rest) (left-less (inner_elements place left es (comma ∷ spell_expression a rest)) (all place (spell_expression a rest) (under_expression place a rest)) 64 h) in let x1 = expression-kept a rest (in-less (spell_expression a rest) (under_expression place a rest) (right-less (inner_elements place left es (comma ∷ spell_expression a rest)) (all place (spell_expression a rest) (under_expression place a rest)) 64 h)) in cc

    entries-kept : (a : Entries) (rest : List Kind) → length (inner_entries place a rest) < 64 → kept_entries place a rest ≡ tree_entries a
    entries-kept no_entries rest h = refl
    entries-kept (entries ps) rest h = pairs-kept ps rest h
    entries-kept (entries_comma ps) rest h = pairs-kept ps (comma ∷ rest) h

    pairs-kept : (a : Pairs) (rest : List Kind) → length (inner_pairs place a rest) < 64 → kept_pairs place a rest ≡ tree_pairs a
    pairs-kept (pairs_one a b) rest h = let x0 = expression-kept a (colon ∷ spell_expression b rest) (in-less (spell_expression a (colon ∷ spell_expression b rest)) (under_expression place a (colon ∷ spell_expression b rest)) (right-less [] (all place (spell_expression a (colon ∷ spell_expression b rest)) (under_expression place a (colon ∷ spell_expression b rest))) 64 (left-less (beside [] (all place (spell_expression a (colon ∷ spell_expression b rest)) (under_expression place a (colon ∷ spell_expression b rest)))) (all place (spell_expression b rest) (under_expression place b rest)) 64 h))) in let x1 = expression-kept b rest (in-less (spell_expression b rest) (under_expression place b rest) (right-less (beside [] (all place (spell_expression a (colon ∷ spell_expression b rest)) (under_expression place a (colon ∷ spell_expression b rest)))) (all place (spell_expression b rest) (under_expression place b rest)) 64 h)) in cc
    pairs-kept (pairs_more ps a b) rest h = let x0 = pairs-kept ps (comma ∷ spell_expression a (colon ∷ spell_expression b rest)) (left-less (inner_pairs place ps (comma ∷ spell_expression a (colon ∷ spell_expression b rest))) (all place (spell_expression a (colon ∷ spell_expression b rest)) (under_expression place a (colon ∷ spell_expression b rest))) 64 (left-less (beside (inner_pairs place ps (comma ∷ spell_expression a (colon ∷ spell_expression b rest))) (all place (spell_expression a (colon ∷ spell_expression b rest)) (under_expression place a (colon ∷ spell_expression b rest)))) (all place (spell_expression b rest) (under_expression place b rest)) 64 h)) in let x1 = expression-kept a (colon ∷ spell_expression b rest) (in-less (spell_expression a (colon ∷ spell_expression b rest)) (under_expression place a (colon ∷ spell_expression b rest)) (right-less (inner_pairs place ps (comma ∷ spell_expression a (colon ∷ spell_expression b rest))) (all place (spell_expression a (colon ∷ spell_expression b rest)) (under_expression place a (colon ∷ spell_expression b rest))) 64 (left-less (beside (inner_pairs place ps (comma ∷ spell_expression a (colon ∷ spell_expression b rest))) (all place (spell_expression a (colon ∷ spell_expression b rest)) (under_expression place a (colon ∷ spell_expression b rest)))) (all place (spell_expression b rest) (under_expression place b rest)) 64 h))) in let x2 = expression-kept b rest (in-less (spell_expression b rest) (under_expression place b rest) (right-less (beside (inner_pairs place ps (comma ∷ spell_expression a (colon ∷ spell_expression b rest))) (all place (spell_expression a (colon ∷ spell_expression b rest)) (under_expression place a (colon ∷ spell_expression b rest)))) (all place (spell_expression b rest) (under_expression place b rest)) 64 h)) in cc
