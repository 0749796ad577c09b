-- What the machine keeps of a part is, for each depth, where the first part that deep begins.
use Rattle.std.proofs.Common.{◌≡◌, ℕ, zero, suc, List, [], ◌∷◌, ◌++◌, max, arith, Option, Some, None, refl, ap, ◌∙◌, sym, append-nil, append_assoc}
use Rattle.py_token.specs.declared.kinds.Kind.{Kind}
use Rattle.py_grammar.specs.Expressions.{Expression, plain, conditional, Ors, ors_one, ors_more, Ands, ands_one, ands_more, Negation, compared, negated, Compares, compares_one, compares_more, compares_none, compares_not_none, Sums, sums_one, sums_more, Products, products_one, products_more, Signed, unsigned, signed, Primary, name, number, text, nothing, truth, falsity, empty, group, display, dict, call, index, slice, Exprs, single, tuple, tuple_comma, Callee, function, method, Bound, unbounded, bounded, Args, no_args, args, args_comma, Elements, elements_one, elements_more, Entries, no_entries, entries, entries_comma, Pairs, pairs_one, pairs_more, spell_expression, spell_ors, spell_ands, spell_negation, spell_compares, spell_sums, spell_products, spell_signed, spell_primary, spell_exprs}
use Rattle.py_grammar.specs.Depth.{at_expression, at_ors, in_ors, at_ands, in_ands, at_negation, at_compares, in_compares, at_sums, in_sums, at_products, in_products, at_signed, at_primary, at_exprs, in_callee, in_bound, in_args, in_elements, in_entries, in_pairs}
use Rattle.py_frames.specs.Values.{beside}
use Rattle.py_frames.specs.Under.{all, either, first, nth, placed, under_expression, under_ors, inner_ors, under_ands, inner_ands, under_negation, under_compares, inner_compares, under_sums, inner_sums, under_products, inner_products, under_signed, under_primary, under_exprs, inner_callee, inner_bound, inner_args, inner_elements, inner_entries, inner_pairs}

either-none : (a : Option ℕ) → a ≡ either a None
either-none None = refl
either-none (Some a) = refl

max-assoc : (a b c : ℕ) → max (max a b) c ≡ max a (max b c)
max-assoc a b c = omega arith

either-assoc : (a b c : Option ℕ) → either (either a b) c ≡ either a (either b c)
either-assoc None b c = refl
either-assoc (Some a) None c = refl
either-assoc (Some a) (Some b) None = refl
either-assoc (Some a) (Some b) (Some c) = ap Some (max-assoc a b c)

nth-beside : (p q : List ℕ) (d : ℕ) → nth d (beside p q) ≡ either (nth d p) (nth d q)
nth-beside [] q d = refl
nth-beside (x ∷ p) [] d = either-none _
nth-beside (x ∷ p) (y ∷ q) zero = refl
nth-beside (x ∷ p) (y ∷ q) (suc d) = nth-beside p q d

first-append : (xs ys : List ℕ) → first (xs ++ ys) ≡ either (first xs) (first ys)
first-append [] ys = refl
first-append (x ∷ xs) ys = ap (either (Some x)) (first-append xs ys) ∙ sym (either-assoc (Some x) (first xs) (first ys))

module _ (place : ℕ → ℕ) (fair : (a b : ℕ) → place (max a b) ≡ max (place a) (place b)) where
  -- the first of these is the place that is kept for that depth
  pub record IsRow (xs : List ℕ) (d : ℕ) (p : List ℕ) : Type 0 where
    pub is : placed place (first xs) ≡ nth d p

  either-placed : (a b : Option ℕ) → placed place (either a b) ≡ either (placed place a) (placed place b)
  either-placed None b = refl
  either-placed (Some a) None = refl
  either-placed (Some a) (Some b) = ap Some (fair a b)

  -- side by side
  pub joins : {xs ys p q : List ℕ} (d : ℕ) → IsRow xs d p → IsRow ys d q → IsRow (xs ++ ys) d (beside p q)
  joins {xs = xs} {ys = ys} {p = p} {q = q} d e f = record { is = ap (placed place) (first-append xs ys) ∙ either-placed (first xs) (first ys) ∙ ap (λ a. either a (placed place (first ys))) e.is ∙ ap (either (nth d p)) f.is ∙ sym (nth-beside p q d) }

  pub deeper : {xs p : List ℕ} (d x : ℕ) → IsRow xs d p → IsRow xs (suc d) (x ∷ p)
  deeper d x e = record { is = e.is }

  pub and_none : {xs p : List ℕ} (d : ℕ) → IsRow xs d p → IsRow (xs ++ []) d p
  and_none {xs = xs} d e = record { is = ap (λ ys. placed place (first ys)) (append-nil xs) ∙ e.is }

  regroup : {p : List ℕ} (xs ys zs : List ℕ) (d : ℕ) → IsRow (xs ++ ys ++ zs) d p → IsRow (xs ++ (ys ++ zs)) d p
  regroup xs ys zs d e = record { is = ap (λ vs. placed place (first vs)) (sym (append_assoc xs ys zs)) ∙ e.is }

  mutual
    pub expression-row : (a : Expression) (rest : List Kind) (d : ℕ) → IsRow (at_expression a rest d) d (all place (spell_expression a rest) (under_expression place a rest))
    expression-row (plain a) rest d = ors-row a rest d
    expression-row (conditional a test b) rest zero = record { is = refl }
    expression-row (conditional a test b) rest (suc d) = deeper d _ (joins d (joins d (ors-row a _ d) (ors-row test _ d)) (expression-row b rest d))

    pub ors-row : (a : Ors) (rest : List Kind) (d : ℕ) → IsRow (at_ors a rest d) d (all place (spell_ors a rest) (under_ors place a rest))
    ors-row (ors_one a) rest d = ands-row a rest d
    ors-row (ors_more b a) rest zero = record { is = refl }
    ors-row (ors_more b a) rest (suc d) = deeper d _ (joins d (ors-inner b _ d) (ands-row a rest d))

    ors-inner : (a : Ors) (rest : List Kind) (d : ℕ) → IsRow (in_ors a rest d) d (inner_ors place a rest)
    ors-inner (ors_one a) rest d = ands-row a rest d
    ors-inner (ors_more b a) rest d = joins d (ors-inner b _ d) (ands-row a rest d)

    pub ands-row : (a : Ands) (rest : List Kind) (d : ℕ) → IsRow (at_ands a rest d) d (all place (spell_ands a rest) (under_ands place a rest))
    ands-row (ands_one a) rest d = negation-row a rest d
    ands-row (ands_more b a) rest zero = record { is = refl }
    ands-row (ands_more b a) rest (suc d) = deeper d _ (joins d (ands-inner b _ d) (negation-row a rest d))

    ands-inner : (a : Ands) (rest : List Kind) (d : ℕ) → IsRow (in_ands a rest d) d (inner_ands place a rest)
    ands-inner (ands_one a) rest d = negation-row a rest d
    ands-inner (ands_more b a) rest d = joins d (ands-inner b _ d) (negation-row a rest d)

    pub negation-row : (a : Negation) (rest : List Kind) (d : ℕ) → IsRow (at_negation a rest d) d (all place (spell_negation a rest) (under_negation place a rest))
    negation-row (compared a) rest d = compares-row a rest d
    negation-row (negated a) rest zero = record { is = refl }
    negation-row (negated a) rest (suc d) = deeper d _ (negation-row a rest d)

    pub compares-row : (a : Compares) (rest : List Kind) (d : ℕ) → IsRow (at_compares a rest d) d (all place (spell_compares a rest) (under_compares place a rest))
    compares-row (compares_one a) rest d = sums-row a rest d
    compares-row (compares_more c r a) rest zero = record { is = refl }
    compares-row (compares_more c r a) rest (suc d) = deeper d _ (joins d (compares-inner c _ d) (sums-row a rest d))
    compares-row (compares_none c) rest zero = record { is = refl }
    compares-row (compares_none c) rest (suc d) = deeper d _ (compares-inner c _ d)
    compares-row (compares_not_none c) rest zero = record { is = refl }
    compares-row (compares_not_none c) rest (suc d) = deeper d _ (compares-inner c _ d)

    compares-inner : (a : Compares) (rest : List Kind) (d : ℕ) → IsRow (in_compares a rest d) d (inner_compares place a rest)
    compares-inner (compares_one a) rest d = sums-row a rest d
    compares-inner (compares_more c r a) rest d = joins d (compares-inner c _ d) (sums-row a rest d)
    compares-inner (compares_none c) rest d = compares-inner c _ d
    compares-inner (compares_not_none c) rest d = compares-inner c _ d

    pub sums-row : (a : Sums) (rest : List Kind) (d : ℕ) → IsRow (at_sums a rest d) d (all place (spell_sums a rest) (under_sums place a rest))
    sums-row (sums_one a) rest d = products-row a rest d
    sums-row (sums_more b s a) rest zero = record { is = refl }
    sums-row (sums_more b s a) rest (suc d) = deeper d _ (joins d (sums-inner b _ d) (products-row a rest d))

    sums-inner : (a : Sums) (rest : List Kind) (d : ℕ) → IsRow (in_sums a rest d) d (inner_sums place a rest)
    sums-inner (sums_one a) rest d = products-row a rest d
    sums-inner (sums_more b s a) rest d = joins d (sums-inner b _ d) (products-row a rest d)

    pub products-row : (a : Products) (rest : List Kind) (d : ℕ) → IsRow (at_products a rest d) d (all place (spell_products a rest) (under_products place a rest))
    products-row (products_one a) rest d = signed-row a rest d
    products-row (products_more b s a) rest zero = record { is = refl }
    products-row (products_more b s a) rest (suc d) = deeper d _ (joins d (products-inner b _ d) (signed-row a rest d))

    products-inner : (a : Products) (rest : List Kind) (d : ℕ) → IsRow (in_products a rest d) d (inner_products place a rest)
    products-inner (products_one a) rest d = signed-row a rest d
    products-inner (products_more b s a) rest d = joins d (products-inner b _ d) (signed-row a rest d)

    pub signed-row : (a : Signed) (rest : List Kind) (d : ℕ) → IsRow (at_signed a rest d) d (all place (spell_signed a rest) (under_signed place a rest))
    signed-row (unsigned a) rest d = primary-row a rest d
    signed-row (signed s a) rest zero = record { is = refl }
    signed-row (signed s a) rest (suc d) = deeper d _ (signed-row a rest d)

    pub primary-row : (a : Primary) (rest : List Kind) (d : ℕ) → IsRow (at_primary a rest d) d (all place (spell_primary a rest) (under_primary place a rest))
    primary-row (name m) rest zero = record { is = refl }
    primary-row (name m) rest (suc d) = record { is = refl }
    primary-row (number m) rest zero = record { is = refl }
    primary-row (number m) rest (suc d) = record { is = refl }
    primary-row (text m) rest zero = record { is = refl }
    primary-row (text m) rest (suc d) = record { is = refl }
    primary-row nothing rest zero = record { is = refl }
    primary-row nothing rest (suc d) = record { is = refl }
    primary-row truth rest zero = record { is = refl }
    primary-row truth rest (suc d) = record { is = refl }
    primary-row falsity rest zero = record { is = refl }
    primary-row falsity rest (suc d) = record { is = refl }
    primary-row empty rest zero = record { is = refl }
    primary-row empty rest (suc d) = record { is = refl }
    primary-row (group a) rest zero = record { is = refl }
    primary-row (group a) rest (suc d) = deeper d _ (exprs-row a _ d)
    primary-row (display a) rest zero = record { is = refl }
    primary-row (display a) rest (suc d) = deeper d _ (args-inner a _ d [] [] (record { is = refl }))
    primary-row (dict a) rest zero = record { is = refl }
    primary-row (dict a) rest (suc d) = deeper d _ (entries-inner a _ d)
    primary-row (call f a) rest zero = record { is = refl }
    primary-row (call f a) rest (suc d) = deeper d _ (args-inner a _ d _ _ (callee-inner f _ d))
    primary-row (index p a) rest zero = record { is = refl }
    primary-row (index p a) rest (suc d) = deeper d _ (joins d (primary-row p _ d) (expression-row a _ d))
    primary-row (slice p a b) rest zero = record { is = refl }
    primary-row (slice p a b) rest (suc d) = deeper d _ (bound-inner b _ d _ _ (bound-inner a _ d _ _ (primary-row p _ d)))

    pub exprs-row : (a : Exprs) (rest : List Kind) (d : ℕ) → IsRow (at_exprs a rest d) d (all place (spell_exprs a rest) (under_exprs place a rest))
    exprs-row (single a) rest d = expression-row a rest d
    exprs-row (tuple es a) rest zero = record { is = refl }
    exprs-row (tuple es a) rest (suc d) = deeper d _ (joins d (elements-inner es _ d [] [] (record { is = refl })) (expression-row a rest d))
    exprs-row (tuple_comma es) rest zero = record { is = refl }
    exprs-row (tuple_comma es) rest (suc d) = deeper d _ (elements-inner es _ d [] [] (record { is = refl }))

    callee-inner : (a : Callee) (rest : List Kind) (d : ℕ) → IsRow (in_callee a rest d) d (inner_callee place a rest)
    callee-inner (function p) rest d = primary-row p rest d
    callee-inner (method p m) rest d = primary-row p _ d

    bound-inner : (a : Bound) (rest : List Kind) (d : ℕ) (xs left : List ℕ) → IsRow xs d left → IsRow (xs ++ in_bound a rest d) d (inner_bound place left a rest)
    bound-inner unbounded rest d xs left e = and_none d e
    bound-inner (bounded a) rest d xs left e = joins d e (expression-row a rest d)

    args-inner : (a : Args) (rest : List Kind) (d : ℕ) (xs left : List ℕ) → IsRow xs d left → IsRow (xs ++ in_args a rest d) d (inner_args place left a rest)
    args-inner no_args rest d xs left e = and_none d e
    args-inner (args es) rest d xs left e = elements-inner es rest d xs left e
    args-inner (args_comma es) rest d xs left e = elements-inner es _ d xs left e

    elements-inner : (a : Elements) (rest : List Kind) (d : ℕ) (xs left : List ℕ) → IsRow xs d left → IsRow (xs ++ in_elements a rest d) d (inner_elements place left a rest)
    elements-inner (elements_one a) rest d xs left e = joins d e (expression-row a rest d)
    elements-inner (elements_more es a) rest d xs left e = regroup xs _ _ d (joins d (elements-inner es _ d xs left e) (expression-row a rest d))

    entries-inner : (a : Entries) (rest : List Kind) (d : ℕ) → IsRow (in_entries a rest d) d (inner_entries place a rest)
    entries-inner no_entries rest d = record { is = refl }
    entries-inner (entries ps) rest d = pairs-inner ps rest d
    entries-inner (entries_comma ps) rest d = pairs-inner ps _ d

    pairs-inner : (a : Pairs) (rest : List Kind) (d : ℕ) → IsRow (in_pairs a rest d) d (inner_pairs place a rest)
    pairs-inner (pairs_one a b) rest d = joins d (expression-row a _ d) (expression-row b rest d)
    pairs-inner (pairs_more ps a b) rest d = joins d (joins d (pairs-inner ps _ d) (expression-row a _ d)) (expression-row b rest d)
