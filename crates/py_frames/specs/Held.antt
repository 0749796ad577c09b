-- What the machine holds when these forms are open, before these tokens.
use Rattle.std.specs.Prelude.{ℕ, zero, suc, Bool, true, false, ◌&&◌, List, [], ◌∷◌, ◌++◌, drop, length, Option, Some, None}
use Rattle.py_token.specs.declared.kinds.Kind.{Kind}
use Rattle.py_token.specs.declared.kinds.Kind.TheVariants as t
use Rattle.py_tree.specs.declared.expressions.Expr.{Expr}
use Rattle.py_tree.specs.declared.expressions.Pair as pair_of
use Rattle.py_grammar.specs.Words.{and_word, or_word, not_word, if_word, else_word, is_word, open_parenthesis, open_bracket, colon, comma, dot}
use Rattle.py_grammar.specs.Expressions.{Exprs, single, tuple, tuple_comma, spell_exprs, Expression, plain, conditional, Ors, ors_one, ors_more, Ands, ands_one, ands_more, Negation, compared, negated, Compares, compares_one, compares_none, compares_not_none, Sums, sums_one, sums_more, Additive, Products, products_one, products_more, Signed, unsigned, signed, Primary, name, index, function, method, Elements, elements_one, elements_more, Pairs, spell_relational, additive_sign, multiplicative_sign, spell_expression, spell_ors, spell_ands, spell_negation, spell_compares, spell_sums, spell_products, spell_signed, spell_primary, spell_bound, spell_elements}
use Rattle.py_grammar.specs.Trees.{relational_op, additive_op, multiplicative_op, is_minus}
use Rattle.py_grammar.specs.Readings as r
use Rattle.py_grammar.specs.Readings.{Picked, picked, upper, Related, related, Added, added, Scaled, scaled, lower, in_group, in_display, in_dict, in_pair, in_call, in_index, in_slice, opened, listed, wants, has, has_none, has_not_none, after_is, after_is_not, after_not, after_dot, after_method}
use Rattle.py_grammar.specs.Open.{spell_test, front_or, front_and, nots, front_added, front_scaled, signs, spell_upper, spell_lower, spell_bracket, front_element}
use Rattle.py_frames.specs.declared.frames.Value.{Value}
use Rattle.py_frames.specs.declared.frames.Frame.{Frame}
use Rattle.py_frames.specs.declared.frames.Chain.{Chain}
use Rattle.py_frames.specs.declared.frames.Hole.{Hole}
use Rattle.py_frames.specs.declared.frames.Hole.TheVariants as h
use Rattle.py_frames.specs.declared.frames.State.{State}
use Rattle.py_frames.specs.declared.frames.State.TheVariants.{Wants, Has, Compared, AfterIs, AfterIsNot, AfterNot, AfterDot, AfterMethod}
use Rattle.py_frames.specs.declared.seeing.Sight.{Sight}
use Rattle.py_frames.specs.Targets.{sight_if}
use Rattle.py_frames.specs.Values as v
use Rattle.py_frames.specs.Values.{beside, begun_by, relating}
use Rattle.py_frames.specs.Under.{all, under_exprs, under_expression, under_picked, under_ors, inner_ors, under_ands, inner_ands, under_negation, under_compares, inner_compares, under_sums, inner_sums, under_products, inner_products, under_signed, under_primary, inner_bound, inner_elements, inner_pairs}
use Rattle.py_frames.specs.Kept.{kept_exprs, kept_expression, kept_ors, terms_ors, kept_ands, terms_ands, kept_negation, kept_compares, first_compared, relations, kept_sums, first_summed, summed, kept_products, first_multiplied, multiplied, kept_signed, kept_primary, kept_bound, kept_elements, kept_pairs}

-- ---- may it be a target

abbrev pub target_primary : Primary → Bool
target_primary (name n) = true
target_primary (index p a) = true
target_primary _ = false

abbrev pub target_signed : Signed → Bool
target_signed (unsigned p) = target_primary p
target_signed (signed s a) = false

abbrev pub target_products : Products → Bool
target_products (products_one a) = target_signed a
target_products (products_more b s a) = false

abbrev pub target_sums : Sums → Bool
target_sums (sums_one a) = target_products a
target_sums (sums_more b s a) = false

abbrev pub target_compares : Compares → Bool
target_compares (compares_one a) = target_sums a
target_compares _ = false

abbrev pub target_negation : Negation → Bool
target_negation (compared a) = target_compares a
target_negation (negated a) = false

abbrev pub target_ands : Ands → Bool
target_ands (ands_one a) = target_negation a
target_ands (ands_more b a) = false

abbrev pub target_ors : Ors → Bool
target_ors (ors_one a) = target_ands a
target_ors (ors_more b a) = false

abbrev pub target_expression : Expression → Bool
target_expression (plain a) = target_ors a
target_expression (conditional a test b) = false

abbrev pub target_elements : Elements → Bool
target_elements (elements_one a) = target_expression a
target_elements (elements_more es a) = target_elements es && target_expression a

abbrev pub target_exprs : Exprs → Bool
target_exprs (single a) = target_expression a
target_exprs _ = false

module _ (place : ℕ → ℕ) where
  -- ---- parts that have ended

  abbrev pub value_expression : Expression → List Kind → Value
  value_expression a rest = record { tree = kept_expression place a rest; from = place (length (spell_expression a rest)); under = under_expression place a rest; target = target_expression a }

  abbrev pub value_ors : Ors → List Kind → Value
  value_ors a rest = record { tree = kept_ors place a rest; from = place (length (spell_ors a rest)); under = under_ors place a rest; target = target_ors a }

  abbrev pub value_ands : Ands → List Kind → Value
  value_ands a rest = record { tree = kept_ands place a rest; from = place (length (spell_ands a rest)); under = under_ands place a rest; target = target_ands a }

  abbrev pub value_negation : Negation → List Kind → Value
  value_negation a rest = record { tree = kept_negation place a rest; from = place (length (spell_negation a rest)); under = under_negation place a rest; target = target_negation a }

  abbrev pub value_compares : Compares → List Kind → Value
  value_compares a rest = record { tree = kept_compares place a rest; from = place (length (spell_compares a rest)); under = under_compares place a rest; target = target_compares a }

  abbrev pub value_sums : Sums → List Kind → Value
  value_sums a rest = record { tree = kept_sums place a rest; from = place (length (spell_sums a rest)); under = under_sums place a rest; target = target_sums a }

  abbrev pub value_products : Products → List Kind → Value
  value_products a rest = record { tree = kept_products place a rest; from = place (length (spell_products a rest)); under = under_products place a rest; target = target_products a }

  abbrev pub value_signed : Signed → List Kind → Value
  value_signed a rest = record { tree = kept_signed place a rest; from = place (length (spell_signed a rest)); under = under_signed place a rest; target = target_signed a }

  abbrev pub value_primary : Primary → List Kind → Value
  value_primary a rest = record { tree = kept_primary place a rest; from = place (length (spell_primary a rest)); under = under_primary place a rest; target = target_primary a }

  -- a comparison so far
  abbrev pub chain_compares : Compares → List Kind → Chain
  chain_compares c rest = record { from = place (length (spell_compares c rest)); under = inner_compares place c rest; first = first_compared place c rest; rest = relations place c rest }

  -- ---- frames, the innermost first, before those of what is around

  abbrev pub frames_signs : List Additive → List Kind → List Frame → List Frame
  frames_signs [] rest fs = fs
  frames_signs (s ∷ ss) rest fs = v.opened (place (length (additive_sign s ∷ rest))) (h.Sign (is_minus s)) ∷ frames_signs ss (additive_sign s ∷ rest) fs

  abbrev pub frames_scaled : Option Scaled → List Kind → List Frame → List Frame
  frames_scaled None rest fs = fs
  frames_scaled (Some (scaled b s)) rest fs = record { from = place (length (spell_products b (multiplicative_sign s ∷ rest))); under = inner_products place b (multiplicative_sign s ∷ rest); hole = h.Arithmetic true (first_multiplied place b (multiplicative_sign s ∷ rest)) (multiplied place b (multiplicative_sign s ∷ rest)) (multiplicative_op s) } ∷ fs

  abbrev pub frames_added : Option Added → List Kind → List Frame → List Frame
  frames_added None rest fs = fs
  frames_added (Some (added b s)) rest fs = record { from = place (length (spell_sums b (additive_sign s ∷ rest))); under = inner_sums place b (additive_sign s ∷ rest); hole = h.Arithmetic false (first_summed place b (additive_sign s ∷ rest)) (summed place b (additive_sign s ∷ rest)) (additive_op s) } ∷ fs

  abbrev pub frames_related : Option Related → List Kind → List Frame → List Frame
  frames_related None rest fs = fs
  frames_related (Some (related c x)) rest fs = relating (chain_compares c (spell_relational x rest)) (relational_op x) ∷ fs

  abbrev pub frames_nots : ℕ → List Kind → List Frame → List Frame
  frames_nots zero rest fs = fs
  frames_nots (suc n) rest fs = v.opened (place (length (not_word ∷ rest))) h.Not ∷ frames_nots n (not_word ∷ rest) fs

  abbrev pub frames_and : Option Ands → List Kind → List Frame → List Frame
  frames_and None rest fs = fs
  frames_and (Some a) rest fs = record { from = place (length (spell_ands a (and_word ∷ rest))); under = inner_ands place a (and_word ∷ rest); hole = h.Logic true (terms_ands place a (and_word ∷ rest)) } ∷ fs

  abbrev pub frames_or : Option Ors → List Kind → List Frame → List Frame
  frames_or None rest fs = fs
  frames_or (Some a) rest fs = record { from = place (length (spell_ors a (or_word ∷ rest))); under = inner_ors place a (or_word ∷ rest); hole = h.Logic false (terms_ors place a (or_word ∷ rest)) } ∷ fs

  abbrev pub frames_test : Option Ors → List Kind → List Frame → List Frame
  frames_test None rest fs = fs
  frames_test (Some a) rest fs = begun_by (value_ors a (if_word ∷ rest)) (h.Picks (kept_ors place a (if_word ∷ rest))) ∷ fs

  abbrev pub frames_picked : List Picked → List Kind → List Frame → List Frame
  frames_picked [] rest fs = fs
  frames_picked (picked a test ∷ ps) rest fs = record { from = place (length (spell_ors a (if_word ∷ spell_ors test (else_word ∷ rest)))); under = under_picked place a test (else_word ∷ rest); hole = h.Chooses (kept_ors place a (if_word ∷ spell_ors test (else_word ∷ rest))) (kept_ors place test (else_word ∷ rest)) }
      ∷ frames_picked ps (spell_ors a (if_word ∷ spell_ors test (else_word ∷ rest))) fs

  abbrev pub frames_lower : r.Lower → List Kind → List Frame → List Frame
  frames_lower (lower x a m ss) rest fs = frames_signs ss rest (frames_scaled m (signs ss rest) (frames_added a (front_scaled m (signs ss rest)) (frames_related x (front_added a (front_scaled m (signs ss rest))) fs)))

  abbrev pub frames_upper : r.Upper → List Kind → List Frame → List Frame
  frames_upper (upper ps test o a n) rest fs = frames_nots n rest (frames_and a (nots n rest) (frames_or o (front_and a (nots n rest)) (frames_test test (front_or o (front_and a (nots n rest))) (frames_picked ps (spell_test test (front_or o (front_and a (nots n rest)))) fs))))

  -- ---- brackets

  abbrev pub under_front : List ℕ → Option Elements → List Kind → List ℕ
  under_front left None rest = left
  under_front left (Some es) rest = inner_elements place left es (comma ∷ rest)

  abbrev pub kept_front : Option Elements → List Kind → List Expr
  kept_front None rest = []
  kept_front (Some es) rest = kept_elements place es (comma ∷ rest)

  abbrev pub under_pairs : Option Pairs → List Kind → List ℕ
  under_pairs None rest = []
  under_pairs (Some ps) rest = inner_pairs place ps (comma ∷ rest)

  abbrev pub kept_front_pairs : Option Pairs → List Kind → List pair_of.Pair
  kept_front_pairs None rest = []
  kept_front_pairs (Some ps) rest = kept_pairs place ps (comma ∷ rest)

  abbrev pub places_primary : Primary → List Kind → List ℕ
  places_primary p rest = all place (spell_primary p rest) (under_primary place p rest)

  abbrev pub under_bracket : r.Bracket → List Kind → List ℕ
  under_bracket in_group rest = []
  under_bracket (in_display es) rest = under_front [] es rest
  under_bracket (in_dict ps) rest = under_pairs ps rest
  under_bracket (in_pair ps a) rest = beside (under_pairs ps (spell_expression a (colon ∷ rest))) (all place (spell_expression a (colon ∷ rest)) (under_expression place a (colon ∷ rest)))
  under_bracket (in_call (function p) es) rest = under_front (places_primary p (open_parenthesis ∷ front_element es rest)) es rest
  under_bracket (in_call (method p n) es) rest = under_front (places_primary p (dot ∷ t.Name n ∷ open_parenthesis ∷ front_element es rest)) es rest
  under_bracket (in_index p) rest = places_primary p (open_bracket ∷ rest)
  under_bracket (in_slice p b) rest = inner_bound place (places_primary p (open_bracket ∷ spell_bound b (colon ∷ rest))) b (colon ∷ rest)

  abbrev pub hole_bracket : r.Bracket → List Kind → Hole
  hole_bracket in_group rest = h.Group
  hole_bracket (in_display es) rest = h.Display (kept_front es rest)
  hole_bracket (in_dict ps) rest = h.Dict (kept_front_pairs ps rest)
  hole_bracket (in_pair ps a) rest = h.Pair (kept_front_pairs ps (spell_expression a (colon ∷ rest))) (kept_expression place a (colon ∷ rest))
  hole_bracket (in_call (function p) es) rest = h.Call (kept_primary place p (open_parenthesis ∷ front_element es rest)) (kept_front es rest)
  hole_bracket (in_call (method p n) es) rest = h.Method (kept_primary place p (dot ∷ t.Name n ∷ open_parenthesis ∷ front_element es rest)) n (kept_front es rest)
  hole_bracket (in_index p) rest = h.Index (kept_primary place p (open_bracket ∷ rest))
  hole_bracket (in_slice p b) rest = h.Slice (kept_primary place p (open_bracket ∷ spell_bound b (colon ∷ rest))) (kept_bound place b (colon ∷ rest))

  abbrev pub frame_tuple : Elements → List Kind → Frame
  frame_tuple es rest = record { from = place (length (spell_elements es (comma ∷ rest))); under = inner_elements place [] es (comma ∷ rest); hole = h.Tuple (kept_elements place es (comma ∷ rest)) (target_elements es) }

  abbrev pub frames_opened : List r.Opened → List Kind → List Frame
  frames_opened [] rest = []
  frames_opened (opened u w b ∷ os) rest = record { from = place (length (spell_bracket b rest)); under = under_bracket b rest; hole = hole_bracket b rest }
      ∷ frames_lower w (spell_bracket b rest) (frames_upper u (spell_lower w (spell_bracket b rest)) (frames_opened os (spell_upper u (spell_lower w (spell_bracket b rest)))))
  frames_opened (listed es ∷ os) rest = frame_tuple es rest ∷ frames_opened os (spell_elements es (comma ∷ rest))

  -- ---- states

  -- around a comparison, before what it spells
  abbrev pub above : List r.Opened → r.Upper → List Kind → List Frame
  above os u rest = frames_upper u rest (frames_opened os (spell_upper u rest))

  -- around an operand
  abbrev pub around : List r.Opened → r.Upper → r.Lower → List Kind → List Frame
  around os u w rest = frames_lower w rest (above os u (spell_lower w rest))

  abbrev pub held : r.Reading → List Kind → State
  held (wants os u w) rest = Wants (around os u w rest)
  held (has os u w p) rest = Has (around os u w (spell_primary p rest)) (value_primary p rest)
  held (has_none os u c) rest = Compared (above os u (spell_compares (compares_none c) rest)) (chain_compares (compares_none c) rest)
  held (has_not_none os u c) rest = Compared (above os u (spell_compares (compares_not_none c) rest)) (chain_compares (compares_not_none c) rest)
  held (after_is os u c) rest = AfterIs (above os u (spell_compares c (is_word ∷ rest))) (chain_compares c (is_word ∷ rest))
  held (after_is_not os u c) rest = AfterIsNot (above os u (spell_compares c (is_word ∷ not_word ∷ rest))) (chain_compares c (is_word ∷ not_word ∷ rest))
  held (after_not os u c) rest = AfterNot (above os u (spell_compares c (not_word ∷ rest))) (chain_compares c (not_word ∷ rest))
  held (after_dot os u w p) rest = AfterDot (around os u w (spell_primary p (dot ∷ rest))) (value_primary p (dot ∷ rest))
  held (after_method os u w p n) rest = AfterMethod (around os u w (spell_primary p (dot ∷ t.Name n ∷ rest))) (value_primary p (dot ∷ t.Name n ∷ rest)) n

  -- if there is a next one
  abbrev pub held_if : Option r.Reading → List Kind → Option State
  held_if None rest = None
  held_if (Some x) rest = Some (held x rest)

  -- what the machine makes of a form when it ends, and sees of it
  abbrev pub value_exprs : Exprs → List Kind → Value
  value_exprs a rest = record { tree = kept_exprs place a rest; from = place (length (spell_exprs a rest)); under = under_exprs place a rest; target = target_exprs a }

  abbrev pub value_if : Option Exprs → List Kind → Option Value
  value_if None rest = None
  value_if (Some a) rest = Some (value_exprs a rest)

  abbrev pub seen : Exprs → List Kind → Option Sight
  seen (single a) rest = sight_if false (target_expression a) (kept_expression place a rest ∷ []) (under_expression place a rest)
  seen (tuple es a) rest = sight_if true (target_elements es && target_expression a) (kept_elements place es (comma ∷ spell_expression a rest) ++ kept_expression place a rest ∷ []) (drop 1 (under_exprs place (tuple es a) rest))
  seen (tuple_comma es) rest = sight_if true (target_elements es) (kept_elements place es (comma ∷ rest)) (drop 1 (under_exprs place (tuple_comma es) rest))

  abbrev pub seen_if : Option Exprs → List Kind → Option Sight
  seen_if None rest = None
  seen_if (Some x) rest = seen x rest
