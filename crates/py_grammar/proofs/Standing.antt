-- Each form, and what is open, spells tokens of its own.
use Rattle.std.proofs.Common.{◌≡◌, ℕ, zero, suc, List, [], ◌∷◌, ◌++◌, Option, Some, None, refl, ap, ◌∙◌, sym, append_assoc}
use Rattle.py_token.specs.declared.kinds.Kind.{Kind}
use Rattle.py_token.specs.declared.kinds.Kind.TheVariants as t
use Rattle.py_grammar.specs.Words.{and_word, or_word, not_word, if_word, else_word, in_word, is_word, none_word, true_word, false_word, equal_sign, not_equal_sign, at_most_sign, at_least_sign, less_sign, more_sign, open_parenthesis, close_parenthesis, open_bracket, close_bracket, open_brace, close_brace, colon, comma, dot}
use Rattle.py_grammar.specs.Expressions.{Expression, plain, conditional, Ors, ors_one, ors_more, Ands, ands_one, ands_more, Negation, compared, negated, Compares, compares_one, compares_more, compares_none, compares_not_none, Relational, equal, not_equal, less, at_most, greater, at_least, within, not_within, Sums, sums_one, sums_more, Additive, Products, products_one, products_more, Signed, unsigned, signed, Primary, name, number, text, nothing, truth, falsity, empty, group, display, dict, call, index, slice, Exprs, single, tuple, tuple_comma, Callee, function, method, Bound, unbounded, bounded, Args, no_args, args, args_comma, Elements, elements_one, elements_more, Entries, no_entries, entries, entries_comma, Pairs, pairs_one, pairs_more, spell_relational, additive_sign, multiplicative_sign, spell_expression, spell_ors, spell_ands, spell_negation, spell_compares, spell_sums, spell_products, spell_signed, spell_primary, spell_exprs, spell_callee, spell_bound, spell_args, spell_elements, spell_entries, spell_pairs}
use Rattle.py_grammar.specs.Readings.{Picked, picked, Upper, upper, Related, related, Added, added, Scaled, scaled, Lower, lower, Bracket, in_group, in_display, in_dict, in_pair, in_call, in_index, in_slice, Opened, opened, listed, Reading, wants, has, has_none, has_not_none, after_is, after_is_not, after_not, after_dot, after_method}
use Rattle.py_grammar.specs.Open.{spell_picked, spell_test, front_or, front_and, nots, front_related, front_added, front_scaled, signs, spell_upper, spell_lower, front_element, front_pair, spell_bracket, spell_opened, spell_reading}

-- what is spelled are tokens that don't depend on what follows
pub record Spelling (f : List Kind → List Kind) : Type 0 where
  pub tokens : List Kind
  pub spelled : (rest : List Kind) → f rest ≡ tokens ++ rest

pub none : Spelling (λ rest. rest)
none = record { tokens = []; spelled = λ rest. refl }

pub first : {f : List Kind → List Kind} (t : Kind) → Spelling f → Spelling (λ rest. t ∷ f rest)
first t s = record { tokens = t ∷ s.tokens; spelled = λ rest. ap (◌∷◌ t) (s.spelled rest) }

pub joined : {f g : List Kind → List Kind} → Spelling f → Spelling g → Spelling (λ rest. f (g rest))
joined {f} a b = record { tokens = a.tokens ++ b.tokens; spelled = λ rest. a.spelled _ ∙ ap (◌++◌ a.tokens) (b.spelled rest) ∙ sym (append_assoc a.tokens b.tokens rest) }

relational-tokens : (r : Relational) → Spelling (spell_relational r)
relational-tokens equal = first equal_sign none
relational-tokens not_equal = first not_equal_sign none
relational-tokens less = first less_sign none
relational-tokens at_most = first at_most_sign none
relational-tokens greater = first more_sign none
relational-tokens at_least = first at_least_sign none
relational-tokens within = first in_word none
relational-tokens not_within = first not_word (first in_word none)

mutual
  pub expression-tokens : (a : Expression) → Spelling (spell_expression a)
  expression-tokens (plain a) = ors-tokens a
  expression-tokens (conditional a test b) = joined (ors-tokens a) (first if_word (joined (ors-tokens test) (first else_word (expression-tokens b))))

  pub ors-tokens : (a : Ors) → Spelling (spell_ors a)
  ors-tokens (ors_one a) = ands-tokens a
  ors-tokens (ors_more a b) = joined (ors-tokens a) (first or_word (ands-tokens b))

  pub ands-tokens : (a : Ands) → Spelling (spell_ands a)
  ands-tokens (ands_one a) = negation-tokens a
  ands-tokens (ands_more a b) = joined (ands-tokens a) (first and_word (negation-tokens b))

  pub negation-tokens : (a : Negation) → Spelling (spell_negation a)
  negation-tokens (compared a) = compares-tokens a
  negation-tokens (negated a) = first not_word (negation-tokens a)

  pub compares-tokens : (a : Compares) → Spelling (spell_compares a)
  compares-tokens (compares_one a) = sums-tokens a
  compares-tokens (compares_more a r b) = joined (compares-tokens a) (joined (relational-tokens r) (sums-tokens b))
  compares-tokens (compares_none a) = joined (compares-tokens a) (first is_word (first none_word none))
  compares-tokens (compares_not_none a) = joined (compares-tokens a) (first is_word (first not_word (first none_word none)))

  pub sums-tokens : (a : Sums) → Spelling (spell_sums a)
  sums-tokens (sums_one a) = products-tokens a
  sums-tokens (sums_more a s b) = joined (sums-tokens a) (first (additive_sign s) (products-tokens b))

  pub products-tokens : (a : Products) → Spelling (spell_products a)
  products-tokens (products_one a) = signed-tokens a
  products-tokens (products_more a s b) = joined (products-tokens a) (first (multiplicative_sign s) (signed-tokens b))

  pub signed-tokens : (a : Signed) → Spelling (spell_signed a)
  signed-tokens (unsigned a) = primary-tokens a
  signed-tokens (signed s a) = first (additive_sign s) (signed-tokens a)

  pub primary-tokens : (a : Primary) → Spelling (spell_primary a)
  primary-tokens (name n) = first (t.Name n) none
  primary-tokens (number n) = first (t.Number n) none
  primary-tokens (text n) = first (t.Text n) none
  primary-tokens nothing = first none_word none
  primary-tokens truth = first true_word none
  primary-tokens falsity = first false_word none
  primary-tokens empty = first open_parenthesis (first close_parenthesis none)
  primary-tokens (group a) = first open_parenthesis (joined (exprs-tokens a) (first close_parenthesis none))
  primary-tokens (display a) = first open_bracket (joined (args-tokens a) (first close_bracket none))
  primary-tokens (dict a) = first open_brace (joined (entries-tokens a) (first close_brace none))
  primary-tokens (call f a) = joined (callee-tokens f) (first open_parenthesis (joined (args-tokens a) (first close_parenthesis none)))
  primary-tokens (index p a) = joined (primary-tokens p) (first open_bracket (joined (expression-tokens a) (first close_bracket none)))
  primary-tokens (slice p a b) = joined (primary-tokens p) (first open_bracket (joined (bound-tokens a) (first colon (joined (bound-tokens b) (first close_bracket none)))))

  pub exprs-tokens : (a : Exprs) → Spelling (spell_exprs a)
  exprs-tokens (single a) = expression-tokens a
  exprs-tokens (tuple es a) = joined (elements-tokens es) (first comma (expression-tokens a))
  exprs-tokens (tuple_comma es) = joined (elements-tokens es) (first comma none)

  pub callee-tokens : (a : Callee) → Spelling (spell_callee a)
  callee-tokens (function p) = primary-tokens p
  callee-tokens (method p n) = joined (primary-tokens p) (first dot (first (t.Name n) none))

  pub bound-tokens : (a : Bound) → Spelling (spell_bound a)
  bound-tokens unbounded = none
  bound-tokens (bounded a) = expression-tokens a

  pub args-tokens : (a : Args) → Spelling (spell_args a)
  args-tokens no_args = none
  args-tokens (args es) = elements-tokens es
  args-tokens (args_comma es) = joined (elements-tokens es) (first comma none)

  pub elements-tokens : (a : Elements) → Spelling (spell_elements a)
  elements-tokens (elements_one a) = expression-tokens a
  elements-tokens (elements_more es a) = joined (elements-tokens es) (first comma (expression-tokens a))

  pub entries-tokens : (a : Entries) → Spelling (spell_entries a)
  entries-tokens no_entries = none
  entries-tokens (entries ps) = pairs-tokens ps
  entries-tokens (entries_comma ps) = joined (pairs-tokens ps) (first comma none)

  pub pairs-tokens : (a : Pairs) → Spelling (spell_pairs a)
  pairs-tokens (pairs_one a b) = joined (expression-tokens a) (first colon (expression-tokens b))
  pairs-tokens (pairs_more ps a b) = joined (pairs-tokens ps) (first comma (joined (expression-tokens a) (first colon (expression-tokens b))))

-- ---- open forms

picked-tokens : (ps : List Picked) → Spelling (spell_picked ps)
picked-tokens [] = none
picked-tokens (picked a b ∷ ps) = joined (picked-tokens ps) (joined (ors-tokens a) (first if_word (joined (ors-tokens b) (first else_word none))))

test-tokens : (o : Option Ors) → Spelling (spell_test o)
test-tokens None = none
test-tokens (Some a) = joined (ors-tokens a) (first if_word none)

or-tokens : (o : Option Ors) → Spelling (front_or o)
or-tokens None = none
or-tokens (Some a) = joined (ors-tokens a) (first or_word none)

and-tokens : (o : Option Ands) → Spelling (front_and o)
and-tokens None = none
and-tokens (Some a) = joined (ands-tokens a) (first and_word none)

nots-tokens : (n : ℕ) → Spelling (nots n)
nots-tokens zero = none
nots-tokens (suc n) = joined (nots-tokens n) (first not_word none)

related-tokens : (o : Option Related) → Spelling (front_related o)
related-tokens None = none
related-tokens (Some (related a r)) = joined (compares-tokens a) (relational-tokens r)

added-tokens : (o : Option Added) → Spelling (front_added o)
added-tokens None = none
added-tokens (Some (added a s)) = joined (sums-tokens a) (first (additive_sign s) none)

scaled-tokens : (o : Option Scaled) → Spelling (front_scaled o)
scaled-tokens None = none
scaled-tokens (Some (scaled a s)) = joined (products-tokens a) (first (multiplicative_sign s) none)

signs-tokens : (ss : List Additive) → Spelling (signs ss)
signs-tokens [] = none
signs-tokens (s ∷ ss) = joined (signs-tokens ss) (first (additive_sign s) none)

upper-tokens : (u : Upper) → Spelling (spell_upper u)
upper-tokens (upper ps test o a n) = joined (picked-tokens ps) (joined (test-tokens test) (joined (or-tokens o) (joined (and-tokens a) (nots-tokens n))))

lower-tokens : (w : Lower) → Spelling (spell_lower w)
lower-tokens (lower r a m ss) = joined (related-tokens r) (joined (added-tokens a) (joined (scaled-tokens m) (signs-tokens ss)))

element-tokens : (o : Option Elements) → Spelling (front_element o)
element-tokens None = none
element-tokens (Some a) = joined (elements-tokens a) (first comma none)

pair-tokens : (o : Option Pairs) → Spelling (front_pair o)
pair-tokens None = none
pair-tokens (Some a) = joined (pairs-tokens a) (first comma none)

bracket-tokens : (b : Bracket) → Spelling (spell_bracket b)
bracket-tokens in_group = first open_parenthesis none
bracket-tokens (in_display es) = first open_bracket (element-tokens es)
bracket-tokens (in_dict ps) = first open_brace (pair-tokens ps)
bracket-tokens (in_pair ps a) = first open_brace (joined (pair-tokens ps) (joined (expression-tokens a) (first colon none)))
bracket-tokens (in_call f es) = joined (callee-tokens f) (first open_parenthesis (element-tokens es))
bracket-tokens (in_index p) = joined (primary-tokens p) (first open_bracket none)
bracket-tokens (in_slice p a) = joined (primary-tokens p) (first open_bracket (joined (bound-tokens a) (first colon none)))

opened-tokens : (os : List Opened) → Spelling (spell_opened os)
opened-tokens [] = none
opened-tokens (listed es ∷ os) = joined (opened-tokens os) (joined (elements-tokens es) (first comma none))
opened-tokens (opened u w b ∷ os) = joined (opened-tokens os) (joined (upper-tokens u) (joined (lower-tokens w) (bracket-tokens b)))

pub reading-tokens : (r : Reading) → Spelling (spell_reading r)
reading-tokens (wants os u w) = joined (opened-tokens os) (joined (upper-tokens u) (lower-tokens w))
reading-tokens (has os u w p) = joined (opened-tokens os) (joined (upper-tokens u) (joined (lower-tokens w) (primary-tokens p)))
reading-tokens (has_none os u c) = joined (opened-tokens os) (joined (upper-tokens u) (joined (compares-tokens c) (first is_word (first none_word none))))
reading-tokens (has_not_none os u c) = joined (opened-tokens os) (joined (upper-tokens u) (joined (compares-tokens c) (first is_word (first not_word (first none_word none)))))
reading-tokens (after_is os u c) = joined (opened-tokens os) (joined (upper-tokens u) (joined (compares-tokens c) (first is_word none)))
reading-tokens (after_is_not os u c) = joined (opened-tokens os) (joined (upper-tokens u) (joined (compares-tokens c) (first is_word (first not_word none))))
reading-tokens (after_not os u c) = joined (opened-tokens os) (joined (upper-tokens u) (joined (compares-tokens c) (first not_word none)))
reading-tokens (after_dot os u w p) = joined (opened-tokens os) (joined (upper-tokens u) (joined (lower-tokens w) (joined (primary-tokens p) (first dot none))))
reading-tokens (after_method os u w p n) = joined (opened-tokens os) (joined (upper-tokens u) (joined (lower-tokens w) (joined (primary-tokens p) (first dot (first (t.Name n) none)))))
