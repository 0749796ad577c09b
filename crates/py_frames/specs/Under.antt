-- The first place at each depth within a form: what the machine keeps of it.
use Rattle.std.specs.Prelude.{ℕ, zero, suc, max, List, [], ◌∷◌, length, Option, Some, None}
use Rattle.py_token.specs.declared.kinds.Kind.{Kind}
use Rattle.py_token.specs.declared.kinds.Kind.TheVariants as t
use Rattle.py_grammar.specs.Words.{and_word, or_word, not_word, if_word, else_word, is_word, none_word, open_parenthesis, close_parenthesis, open_bracket, close_bracket, close_brace, colon, comma, dot}
use Rattle.py_frames.specs.Values.{beside}
use Rattle.py_grammar.specs.Expressions.{Expression, plain, conditional, Ors, ors_one, ors_more, Ands, ands_one, ands_more, Negation, compared, negated, Compares, compares_one, compares_more, compares_none, compares_not_none, Sums, sums_one, sums_more, Products, products_one, products_more, Signed, unsigned, signed, Primary, name, number, text, nothing, truth, falsity, empty, group, display, dict, call, index, slice, Exprs, single, tuple, tuple_comma, Callee, function, method, Bound, unbounded, bounded, Args, no_args, args, args_comma, Elements, elements_one, elements_more, Entries, no_entries, entries, entries_comma, Pairs, pairs_one, pairs_more, spell_relational, additive_sign, multiplicative_sign, spell_expression, spell_ors, spell_ands, spell_negation, spell_sums, spell_products, spell_signed, spell_primary, spell_exprs, spell_bound, spell_args}

module _ (place : ℕ → ℕ) where
  -- the places of a part that spells these tokens
  abbrev pub all : List Kind → List ℕ → List ℕ
  all tokens under = place (length tokens) ∷ under

  abbrev mutual
    pub under_expression : Expression → List Kind → List ℕ
    under_expression (plain a) rest = under_ors a rest
    under_expression (conditional a test b) rest = beside (beside (all (spell_ors a (if_word ∷ spell_ors test (else_word ∷ spell_expression b rest))) (under_ors a (if_word ∷ spell_ors test (else_word ∷ spell_expression b rest)))) (all (spell_ors test (else_word ∷ spell_expression b rest)) (under_ors test (else_word ∷ spell_expression b rest)))) (all (spell_expression b rest) (under_expression b rest))

    pub under_ors : Ors → List Kind → List ℕ
    under_ors (ors_one a) rest = under_ands a rest
    under_ors (ors_more b a) rest = beside (inner_ors b (or_word ∷ spell_ands a rest)) (all (spell_ands a rest) (under_ands a rest))

    -- of the operands of a chain
    pub inner_ors : Ors → List Kind → List ℕ
    inner_ors (ors_one a) rest = all (spell_ands a rest) (under_ands a rest)
    inner_ors (ors_more b a) rest = beside (inner_ors b (or_word ∷ spell_ands a rest)) (all (spell_ands a rest) (under_ands a rest))

    pub under_ands : Ands → List Kind → List ℕ
    under_ands (ands_one a) rest = under_negation a rest
    under_ands (ands_more b a) rest = beside (inner_ands b (and_word ∷ spell_negation a rest)) (all (spell_negation a rest) (under_negation a rest))

    pub inner_ands : Ands → List Kind → List ℕ
    inner_ands (ands_one a) rest = all (spell_negation a rest) (under_negation a rest)
    inner_ands (ands_more b a) rest = beside (inner_ands b (and_word ∷ spell_negation a rest)) (all (spell_negation a rest) (under_negation a rest))

    pub under_negation : Negation → List Kind → List ℕ
    under_negation (compared a) rest = under_compares a rest
    under_negation (negated a) rest = all (spell_negation a rest) (under_negation a rest)

    pub under_compares : Compares → List Kind → List ℕ
    under_compares (compares_one a) rest = under_sums a rest
    under_compares (compares_more c r a) rest = beside (inner_compares c (spell_relational r (spell_sums a rest))) (all (spell_sums a rest) (under_sums a rest))
    under_compares (compares_none c) rest = inner_compares c (is_word ∷ none_word ∷ rest)
    under_compares (compares_not_none c) rest = inner_compares c (is_word ∷ not_word ∷ none_word ∷ rest)

    pub inner_compares : Compares → List Kind → List ℕ
    inner_compares (compares_one a) rest = all (spell_sums a rest) (under_sums a rest)
    inner_compares (compares_more c r a) rest = beside (inner_compares c (spell_relational r (spell_sums a rest))) (all (spell_sums a rest) (under_sums a rest))
    inner_compares (compares_none c) rest = inner_compares c (is_word ∷ none_word ∷ rest)
    inner_compares (compares_not_none c) rest = inner_compares c (is_word ∷ not_word ∷ none_word ∷ rest)

    pub under_sums : Sums → List Kind → List ℕ
    under_sums (sums_one a) rest = under_products a rest
    under_sums (sums_more b s a) rest = beside (inner_sums b (additive_sign s ∷ spell_products a rest)) (all (spell_products a rest) (under_products a rest))

    pub inner_sums : Sums → List Kind → List ℕ
    inner_sums (sums_one a) rest = all (spell_products a rest) (under_products a rest)
    inner_sums (sums_more b s a) rest = beside (inner_sums b (additive_sign s ∷ spell_products a rest)) (all (spell_products a rest) (under_products a rest))

    pub under_products : Products → List Kind → List ℕ
    under_products (products_one a) rest = under_signed a rest
    under_products (products_more b s a) rest = beside (inner_products b (multiplicative_sign s ∷ spell_signed a rest)) (all (spell_signed a rest) (under_signed a rest))

    pub inner_products : Products → List Kind → List ℕ
    inner_products (products_one a) rest = all (spell_signed a rest) (under_signed a rest)
    inner_products (products_more b s a) rest = beside (inner_products b (multiplicative_sign s ∷ spell_signed a rest)) (all (spell_signed a rest) (under_signed a rest))

    pub under_signed : Signed → List Kind → List ℕ
    under_signed (unsigned a) rest = under_primary a rest
    under_signed (signed s a) rest = all (spell_signed a rest) (under_signed a rest)

    pub under_primary : Primary → List Kind → List ℕ
    under_primary (name m) rest = []
    under_primary (number m) rest = []
    under_primary (text m) rest = []
    under_primary nothing rest = []
    under_primary truth rest = []
    under_primary falsity rest = []
    under_primary empty rest = []
    under_primary (group a) rest = all (spell_exprs a (close_parenthesis ∷ rest)) (under_exprs a (close_parenthesis ∷ rest))
    under_primary (display a) rest = inner_args [] a (close_bracket ∷ rest)
    under_primary (dict a) rest = inner_entries a (close_brace ∷ rest)
    under_primary (call f a) rest = inner_args (inner_callee f (open_parenthesis ∷ spell_args a (close_parenthesis ∷ rest))) a (close_parenthesis ∷ rest)
    under_primary (index p a) rest = beside (all (spell_primary p (open_bracket ∷ spell_expression a (close_bracket ∷ rest))) (under_primary p (open_bracket ∷ spell_expression a (close_bracket ∷ rest)))) (all (spell_expression a (close_bracket ∷ rest)) (under_expression a (close_bracket ∷ rest)))
    under_primary (slice p a b) rest = inner_bound (inner_bound (all (spell_primary p (open_bracket ∷ spell_bound a (colon ∷ spell_bound b (close_bracket ∷ rest)))) (under_primary p (open_bracket ∷ spell_bound a (colon ∷ spell_bound b (close_bracket ∷ rest))))) a (colon ∷ spell_bound b (close_bracket ∷ rest))) b (close_bracket ∷ rest)

    pub under_exprs : Exprs → List Kind → List ℕ
    under_exprs (single a) rest = under_expression a rest
    under_exprs (tuple es a) rest = beside (inner_elements [] es (comma ∷ spell_expression a rest)) (all (spell_expression a rest) (under_expression a rest))
    under_exprs (tuple_comma es) rest = inner_elements [] es (comma ∷ rest)

    pub inner_callee : Callee → List Kind → List ℕ
    inner_callee (function p) rest = all (spell_primary p rest) (under_primary p rest)
    inner_callee (method p m) rest = all (spell_primary p (dot ∷ t.Name m ∷ rest)) (under_primary p (dot ∷ t.Name m ∷ rest))

    -- of what is on the left, and these
    pub inner_bound : List ℕ → Bound → List Kind → List ℕ
    inner_bound left unbounded rest = left
    inner_bound left (bounded a) rest = beside left (all (spell_expression a rest) (under_expression a rest))

    pub inner_args : List ℕ → Args → List Kind → List ℕ
    inner_args left no_args rest = left
    inner_args left (args es) rest = inner_elements left es rest
    inner_args left (args_comma es) rest = inner_elements left es (comma ∷ rest)

    pub inner_elements : List ℕ → Elements → List Kind → List ℕ
    inner_elements left (elements_one a) rest = beside left (all (spell_expression a rest) (under_expression a rest))
    inner_elements left (elements_more es a) rest = beside (inner_elements left es (comma ∷ spell_expression a rest)) (all (spell_expression a rest) (under_expression a rest))

    pub inner_entries : Entries → List Kind → List ℕ
    inner_entries no_entries rest = []
    inner_entries (entries ps) rest = inner_pairs ps rest
    inner_entries (entries_comma ps) rest = inner_pairs ps (comma ∷ rest)

    pub inner_pairs : Pairs → List Kind → List ℕ
    inner_pairs (pairs_one a b) rest = beside (beside [] (all (spell_expression a (colon ∷ spell_expression b rest)) (under_expression a (colon ∷ spell_expression b rest)))) (all (spell_expression b rest) (under_expression b rest))
    inner_pairs (pairs_more ps a b) rest = beside (beside (inner_pairs ps (comma ∷ spell_expression a (colon ∷ spell_expression b rest))) (all (spell_expression a (colon ∷ spell_expression b rest)) (under_expression a (colon ∷ spell_expression b rest)))) (all (spell_expression b rest) (under_expression b rest))

  -- of `a if test`, before these tokens
  abbrev pub under_picked : Ors → Ors → List Kind → List ℕ
  under_picked a test rest = beside (all (spell_ors a (if_word ∷ spell_ors test rest)) (under_ors a (if_word ∷ spell_ors test rest))) (all (spell_ors test rest) (under_ors test rest))

-- the earlier of two places, if there are
abbrev pub either : Option ℕ → Option ℕ → Option ℕ
either None b = b
either (Some a) None = Some a
either (Some a) (Some b) = Some (max a b)

-- the first place of a list
abbrev pub first : List ℕ → Option ℕ
first [] = None
first (x ∷ xs) = either (Some x) (first xs)

-- the place at an index, if there is one
abbrev pub nth : ℕ → List ℕ → Option ℕ
nth d [] = None
nth zero (x ∷ xs) = Some x
nth (suc d) (x ∷ xs) = nth d xs

abbrev pub placed : (ℕ → ℕ) → Option ℕ → Option ℕ
placed place None = None
placed place (Some a) = Some (place a)
