-- The tree of a form as the machine keeps it: a part that is too deep everywhere leaves none.
use Rattle.std.specs.Prelude.{ℕ, true, false, List, [], ◌∷◌, ◌++◌, Option, Some, None}
use Rattle.py_token.specs.declared.kinds.Kind.{Kind}
use Rattle.py_token.specs.declared.kinds.Kind.TheVariants as t
use Rattle.py_tree.specs.declared.expressions.Expr.{Expr}
use Rattle.py_tree.specs.declared.expressions.Expr.TheVariants as e
use Rattle.py_tree.specs.declared.expressions.Literal.TheVariants as literal
use Rattle.py_tree.specs.declared.expressions.Relation.{Relation}
use Rattle.py_tree.specs.declared.expressions.Relation.TheVariants as relation
use Rattle.py_tree.specs.declared.expressions.Operand.{Operand}
use Rattle.py_tree.specs.declared.expressions.Pair.{Pair}
use Rattle.py_grammar.specs.Words.{and_word, or_word, not_word, if_word, else_word, is_word, none_word, open_parenthesis, close_parenthesis, open_bracket, close_bracket, close_brace, colon, comma, dot}
use Rattle.py_grammar.specs.Expressions.{Expression, plain, conditional, Ors, ors_one, ors_more, Ands, ands_one, ands_more, Negation, compared, negated, Compares, compares_one, compares_more, compares_none, compares_not_none, Sums, sums_one, sums_more, Products, products_one, products_more, Signed, unsigned, signed, Primary, name, number, text, nothing, truth, falsity, empty, group, display, dict, call, index, slice, Exprs, single, tuple, tuple_comma, Callee, function, method, Bound, unbounded, bounded, Args, no_args, args, args_comma, Elements, elements_one, elements_more, Entries, no_entries, entries, entries_comma, Pairs, pairs_one, pairs_more, spell_relational, additive_sign, multiplicative_sign, spell_expression, spell_ors, spell_ands, spell_negation, spell_sums, spell_products, spell_signed, spell_args, spell_bound}
use Rattle.py_grammar.specs.Trees.{relational_op, additive_op, multiplicative_op, is_minus}
use Rattle.py_frames.specs.Values.{kept}
use Rattle.py_frames.specs.Under.{under_expression, under_ors, under_ands, under_negation, under_compares, under_sums, under_products, under_signed, under_primary, under_exprs}

module _ (place : ℕ → ℕ) where
  abbrev mutual
    pub kept_expression : Expression → List Kind → Expr
    kept_expression (plain a) rest = kept_ors a rest
    kept_expression (conditional a test b) rest = kept (under_expression place (conditional a test b) rest) (e.Conditional (kept_ors test (else_word ∷ spell_expression b rest)) (kept_ors a (if_word ∷ spell_ors test (else_word ∷ spell_expression b rest))) (kept_expression b rest))

    pub kept_ors : Ors → List Kind → Expr
    kept_ors (ors_one a) rest = kept_ands a rest
    kept_ors (ors_more b a) rest = kept (under_ors place (ors_more b a) rest) (e.Or (terms_ors b (or_word ∷ spell_ands a rest) ++ kept_ands a rest ∷ []))

    pub terms_ors : Ors → List Kind → List Expr
    terms_ors (ors_one a) rest = kept_ands a rest ∷ []
    terms_ors (ors_more b a) rest = terms_ors b (or_word ∷ spell_ands a rest) ++ kept_ands a rest ∷ []

    pub kept_ands : Ands → List Kind → Expr
    kept_ands (ands_one a) rest = kept_negation a rest
    kept_ands (ands_more b a) rest = kept (under_ands place (ands_more b a) rest) (e.And (terms_ands b (and_word ∷ spell_negation a rest) ++ kept_negation a rest ∷ []))

    pub terms_ands : Ands → List Kind → List Expr
    terms_ands (ands_one a) rest = kept_negation a rest ∷ []
    terms_ands (ands_more b a) rest = terms_ands b (and_word ∷ spell_negation a rest) ++ kept_negation a rest ∷ []

    pub kept_negation : Negation → List Kind → Expr
    kept_negation (compared a) rest = kept_compares a rest
    kept_negation (negated a) rest = kept (under_negation place (negated a) rest) (e.Not (kept_negation a rest))

    pub kept_compares : Compares → List Kind → Expr
    kept_compares (compares_one a) rest = kept_sums a rest
    kept_compares (compares_more c r a) rest = kept (under_compares place (compares_more c r a) rest) (e.Compare (first_compared c (spell_relational r (spell_sums a rest))) (relations c (spell_relational r (spell_sums a rest)) ++ relation.With (relational_op r) (kept_sums a rest) ∷ []))
    kept_compares (compares_none c) rest = kept (under_compares place (compares_none c) rest) (e.Compare (first_compared c (is_word ∷ none_word ∷ rest)) (relations c (is_word ∷ none_word ∷ rest) ++ relation.IsNone ∷ []))
    kept_compares (compares_not_none c) rest = kept (under_compares place (compares_not_none c) rest) (e.Compare (first_compared c (is_word ∷ not_word ∷ none_word ∷ rest)) (relations c (is_word ∷ not_word ∷ none_word ∷ rest) ++ relation.IsNotNone ∷ []))

    pub first_compared : Compares → List Kind → Expr
    first_compared (compares_one a) rest = kept_sums a rest
    first_compared (compares_more c r a) rest = first_compared c (spell_relational r (spell_sums a rest))
    first_compared (compares_none c) rest = first_compared c (is_word ∷ none_word ∷ rest)
    first_compared (compares_not_none c) rest = first_compared c (is_word ∷ not_word ∷ none_word ∷ rest)

    pub relations : Compares → List Kind → List Relation
    relations (compares_one a) rest = []
    relations (compares_more c r a) rest = relations c (spell_relational r (spell_sums a rest)) ++ relation.With (relational_op r) (kept_sums a rest) ∷ []
    relations (compares_none c) rest = relations c (is_word ∷ none_word ∷ rest) ++ relation.IsNone ∷ []
    relations (compares_not_none c) rest = relations c (is_word ∷ not_word ∷ none_word ∷ rest) ++ relation.IsNotNone ∷ []

    pub kept_sums : Sums → List Kind → Expr
    kept_sums (sums_one a) rest = kept_products a rest
    kept_sums (sums_more b s a) rest = kept (under_sums place (sums_more b s a) rest) (e.Sum (first_summed b (additive_sign s ∷ spell_products a rest)) (summed b (additive_sign s ∷ spell_products a rest) ++ record { op = additive_op s; value = kept_products a rest } ∷ []))

    pub first_summed : Sums → List Kind → Expr
    first_summed (sums_one a) rest = kept_products a rest
    first_summed (sums_more b s a) rest = first_summed b (additive_sign s ∷ spell_products a rest)

    pub summed : Sums → List Kind → List Operand
    summed (sums_one a) rest = []
    summed (sums_more b s a) rest = summed b (additive_sign s ∷ spell_products a rest) ++ record { op = additive_op s; value = kept_products a rest } ∷ []

    pub kept_products : Products → List Kind → Expr
    kept_products (products_one a) rest = kept_signed a rest
    kept_products (products_more b s a) rest = kept (under_products place (products_more b s a) rest) (e.Product (first_multiplied b (multiplicative_sign s ∷ spell_signed a rest)) (multiplied b (multiplicative_sign s ∷ spell_signed a rest) ++ record { op = multiplicative_op s; value = kept_signed a rest } ∷ []))

    pub first_multiplied : Products → List Kind → Expr
    first_multiplied (products_one a) rest = kept_signed a rest
    first_multiplied (products_more b s a) rest = first_multiplied b (multiplicative_sign s ∷ spell_signed a rest)

    pub multiplied : Products → List Kind → List Operand
    multiplied (products_one a) rest = []
    multiplied (products_more b s a) rest = multiplied b (multiplicative_sign s ∷ spell_signed a rest) ++ record { op = multiplicative_op s; value = kept_signed a rest } ∷ []

    pub kept_signed : Signed → List Kind → Expr
    kept_signed (unsigned a) rest = kept_primary a rest
    kept_signed (signed s a) rest = kept (under_signed place (signed s a) rest) (e.Sign (is_minus s) (kept_signed a rest))

    pub kept_primary : Primary → List Kind → Expr
    kept_primary (name n) rest = e.Name n
    kept_primary (number n) rest = e.Literal (literal.Number n)
    kept_primary (text n) rest = e.Literal (literal.Text n)
    kept_primary nothing rest = e.Literal literal.Nothing
    kept_primary truth rest = e.Literal (literal.Bool true)
    kept_primary falsity rest = e.Literal (literal.Bool false)
    kept_primary empty rest = e.TupleOf []
    kept_primary (group a) rest = kept (under_primary place (group a) rest) (kept_exprs a (close_parenthesis ∷ rest))
    kept_primary (display a) rest = kept (under_primary place (display a) rest) (e.ListOf (kept_args a (close_bracket ∷ rest)))
    kept_primary (dict a) rest = kept (under_primary place (dict a) rest) (e.DictOf (kept_entries a (close_brace ∷ rest)))
    kept_primary (call f a) rest = kept (under_primary place (call f a) rest) (kept_call f (open_parenthesis ∷ spell_args a (close_parenthesis ∷ rest)) (kept_args a (close_parenthesis ∷ rest)))
    kept_primary (index p a) rest = kept (under_primary place (index p a) rest) (e.Index (kept_primary p (open_bracket ∷ spell_expression a (close_bracket ∷ rest))) (kept_expression a (close_bracket ∷ rest)))
    kept_primary (slice p a b) rest = kept (under_primary place (slice p a b) rest) (e.Slice (kept_primary p (open_bracket ∷ spell_bound a (colon ∷ spell_bound b (close_bracket ∷ rest)))) (kept_bound a (colon ∷ spell_bound b (close_bracket ∷ rest))) (kept_bound b (close_bracket ∷ rest)))

    pub kept_exprs : Exprs → List Kind → Expr
    kept_exprs (single a) rest = kept_expression a rest
    kept_exprs (tuple es a) rest = kept (under_exprs place (tuple es a) rest) (e.TupleOf (kept_elements es (comma ∷ spell_expression a rest) ++ kept_expression a rest ∷ []))
    kept_exprs (tuple_comma es) rest = kept (under_exprs place (tuple_comma es) rest) (e.TupleOf (kept_elements es (comma ∷ rest)))

    pub kept_call : Callee → List Kind → List Expr → Expr
    kept_call (function p) rest given = e.Call (kept_primary p rest) given
    kept_call (method p n) rest given = e.Method (kept_primary p (dot ∷ t.Name n ∷ rest)) n given

    pub kept_bound : Bound → List Kind → Option Expr
    kept_bound unbounded rest = None
    kept_bound (bounded a) rest = Some (kept_expression a rest)

    pub kept_args : Args → List Kind → List Expr
    kept_args no_args rest = []
    kept_args (args es) rest = kept_elements es rest
    kept_args (args_comma es) rest = kept_elements es (comma ∷ rest)

    pub kept_elements : Elements → List Kind → List Expr
    kept_elements (elements_one a) rest = kept_expression a rest ∷ []
    kept_elements (elements_more es a) rest = kept_elements es (comma ∷ spell_expression a rest) ++ kept_expression a rest ∷ []

    pub kept_entries : Entries → List Kind → List Pair
    kept_entries no_entries rest = []
    kept_entries (entries ps) rest = kept_pairs ps rest
    kept_entries (entries_comma ps) rest = kept_pairs ps (comma ∷ rest)

    pub kept_pairs : Pairs → List Kind → List Pair
    kept_pairs (pairs_one a b) rest = record { key = kept_expression a (colon ∷ spell_expression b rest); value = kept_expression b rest } ∷ []
    kept_pairs (pairs_more ps a b) rest = kept_pairs ps (comma ∷ spell_expression a (colon ∷ spell_expression b rest)) ++ record { key = kept_expression a (colon ∷ spell_expression b rest); value = kept_expression b rest } ∷ []
