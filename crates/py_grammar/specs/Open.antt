-- What forms that are still open spell: what has been read of an expression.
use Rattle.std.specs.Prelude.{ℕ, zero, suc, List, [], ◌∷◌, Option, Some, None}
use Rattle.py_token.specs.declared.kinds.Kind.{Kind}
use Rattle.py_token.specs.declared.kinds.Kind.TheVariants as t
use Rattle.py_grammar.specs.Words.{and_word, or_word, not_word, if_word, else_word, is_word, none_word, open_parenthesis, open_bracket, open_brace, colon, comma, dot}
use Rattle.py_grammar.specs.Expressions.{Ors, Ands, Additive, Elements, Pairs, spell_relational, additive_sign, multiplicative_sign, spell_expression, spell_ors, spell_ands, spell_compares, spell_sums, spell_products, spell_primary, spell_callee, spell_bound, spell_elements, spell_pairs}
use Rattle.py_grammar.specs.Readings.{Picked, picked, Upper, upper, Related, related, Added, added, Scaled, scaled, Lower, lower, Bracket, in_group, in_display, in_dict, in_pair, in_call, in_index, in_slice, Opened, opened, listed, Reading, wants, has, has_none, has_not_none, after_is, after_is_not, after_not, after_dot, after_method}

abbrev pub spell_picked : List Picked → List Kind → List Kind
spell_picked [] rest = rest
spell_picked (picked a test ∷ ps) rest = spell_picked ps (spell_ors a (if_word ∷ spell_ors test (else_word ∷ rest)))

abbrev pub spell_test : Option Ors → List Kind → List Kind
spell_test None rest = rest
spell_test (Some a) rest = spell_ors a (if_word ∷ rest)

abbrev pub front_or : Option Ors → List Kind → List Kind
front_or None rest = rest
front_or (Some a) rest = spell_ors a (or_word ∷ rest)

abbrev pub front_and : Option Ands → List Kind → List Kind
front_and None rest = rest
front_and (Some a) rest = spell_ands a (and_word ∷ rest)

abbrev pub nots : ℕ → List Kind → List Kind
nots zero rest = rest
nots (suc n) rest = nots n (not_word ∷ rest)

abbrev pub front_related : Option Related → List Kind → List Kind
front_related None rest = rest
front_related (Some (related a r)) rest = spell_compares a (spell_relational r rest)

abbrev pub front_added : Option Added → List Kind → List Kind
front_added None rest = rest
front_added (Some (added a s)) rest = spell_sums a (additive_sign s ∷ rest)

abbrev pub front_scaled : Option Scaled → List Kind → List Kind
front_scaled None rest = rest
front_scaled (Some (scaled a s)) rest = spell_products a (multiplicative_sign s ∷ rest)

abbrev pub signs : List Additive → List Kind → List Kind
signs [] rest = rest
signs (s ∷ ss) rest = signs ss (additive_sign s ∷ rest)

abbrev pub spell_upper : Upper → List Kind → List Kind
spell_upper (upper ps test o a n) rest = spell_picked ps (spell_test test (front_or o (front_and a (nots n rest))))

abbrev pub spell_lower : Lower → List Kind → List Kind
spell_lower (lower r a m ss) rest = front_related r (front_added a (front_scaled m (signs ss rest)))

abbrev pub front_element : Option Elements → List Kind → List Kind
front_element None rest = rest
front_element (Some es) rest = spell_elements es (comma ∷ rest)

abbrev pub front_pair : Option Pairs → List Kind → List Kind
front_pair None rest = rest
front_pair (Some ps) rest = spell_pairs ps (comma ∷ rest)

abbrev pub spell_bracket : Bracket → List Kind → List Kind
spell_bracket in_group rest = open_parenthesis ∷ rest
spell_bracket (in_display es) rest = open_bracket ∷ front_element es rest
spell_bracket (in_dict ps) rest = open_brace ∷ front_pair ps rest
spell_bracket (in_pair ps a) rest = open_brace ∷ front_pair ps (spell_expression a (colon ∷ rest))
spell_bracket (in_call f es) rest = spell_callee f (open_parenthesis ∷ front_element es rest)
spell_bracket (in_index p) rest = spell_primary p (open_bracket ∷ rest)
spell_bracket (in_slice p a) rest = spell_primary p (open_bracket ∷ spell_bound a (colon ∷ rest))

abbrev pub spell_opened : List Opened → List Kind → List Kind
spell_opened [] rest = rest
spell_opened (listed es ∷ os) rest = spell_opened os (spell_elements es (comma ∷ rest))
spell_opened (opened u w b ∷ os) rest = spell_opened os (spell_upper u (spell_lower w (spell_bracket b rest)))

abbrev pub spell_reading : Reading → List Kind → List Kind
spell_reading (wants os u w) rest = spell_opened os (spell_upper u (spell_lower w rest))
spell_reading (has os u w p) rest = spell_opened os (spell_upper u (spell_lower w (spell_primary p rest)))
spell_reading (has_none os u c) rest = spell_opened os (spell_upper u (spell_compares c (is_word ∷ none_word ∷ rest)))
spell_reading (has_not_none os u c) rest = spell_opened os (spell_upper u (spell_compares c (is_word ∷ not_word ∷ none_word ∷ rest)))
spell_reading (after_is os u c) rest = spell_opened os (spell_upper u (spell_compares c (is_word ∷ rest)))
spell_reading (after_is_not os u c) rest = spell_opened os (spell_upper u (spell_compares c (is_word ∷ not_word ∷ rest)))
spell_reading (after_not os u c) rest = spell_opened os (spell_upper u (spell_compares c (not_word ∷ rest)))
spell_reading (after_dot os u w p) rest = spell_opened os (spell_upper u (spell_lower w (spell_primary p (dot ∷ rest))))
spell_reading (after_method os u w p n) rest = spell_opened os (spell_upper u (spell_lower w (spell_primary p (dot ∷ t.Name n ∷ rest))))
