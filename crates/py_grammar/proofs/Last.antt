-- What has been read is what its last token makes of what was read before.
use Rattle.std.proofs.Common.{◌≡◌, ℕ, zero, suc, Bool, false, IsTrue, List, [], ◌∷◌, Option, Some, None, refl, ap, ◌∙◌, sym, subst}
use Rattle.py_token.specs.declared.kinds.Kind.{Kind}
use Rattle.py_token.specs.declared.kinds.Kind.TheVariants as t
use Rattle.std.proofs.lemmas.Bool.{false≢true}
use Rattle.py_grammar.specs.Words.{and_word, or_word, not_word, if_word, else_word, in_word, is_word, none_word, true_word, false_word, equal_sign, not_equal_sign, at_most_sign, at_least_sign, floor_sign, plus_sign, minus_sign, times_sign, mod_sign, less_sign, more_sign, open_parenthesis, close_parenthesis, open_bracket, close_bracket, open_brace, close_brace, colon, comma, dot}
use Rattle.py_grammar.specs.Expressions.{Expression, plain, conditional, Ors, ors_one, ors_more, Ands, ands_one, ands_more, Negation, compared, negated, Compares, compares_one, compares_more, compares_none, compares_not_none, Relational, equal, not_equal, less, at_most, greater, at_least, within, not_within, Sums, sums_one, sums_more, Additive, plus, minus, Products, products_one, products_more, Multiplicative, times, floor, modulo, Signed, unsigned, signed, Primary, name, number, text, nothing, truth, falsity, empty, group, display, dict, call, index, slice, Exprs, single, tuple, tuple_comma, Callee, function, method, unbounded, bounded, no_args, args, args_comma, Elements, elements_one, elements_more, no_entries, entries, entries_comma, Pairs, pairs_one, pairs_more}
use Rattle.py_grammar.specs.Readings.{Picked, picked, Upper, upper, Related, related, Added, added, Scaled, scaled, Lower, lower, no_upper, no_lower, Bracket, in_group, in_display, in_dict, in_pair, in_call, in_index, in_slice, Opened, opened, listed, Reading, wants, has, has_none, has_not_none, after_is, after_is_not, after_not, after_dot, after_method, begun, add_signs, add_scaled, add_added, add_nots, add_and, add_or, add_picked, compares_of, expression_of, close_parenthesis_after, close_bracket_after, close_brace_after, comma_after, colon_after, behind, operator, read, exprs_after, whole, bare_below, narrow, open_in, one_below, undivided, directly, lists_stand, reading_stands}

-- ---- where a form ends

abbrev signed_signs : List Additive → Signed → List Additive
signed_signs ss (unsigned p) = ss
signed_signs ss (signed s a) = signed_signs (s ∷ ss) a

abbrev signed_primary : Signed → Primary
signed_primary (unsigned p) = p
signed_primary (signed s a) = signed_primary a

abbrev products_front : Products → Option Scaled
products_front (products_one a) = None
products_front (products_more b s a) = Some (scaled b s)

abbrev products_last : Products → Signed
products_last (products_one a) = a
products_last (products_more b s a) = a

abbrev sums_front : Sums → Option Added
sums_front (sums_one a) = None
sums_front (sums_more b s a) = Some (added b s)

abbrev sums_last : Sums → Products
sums_last (sums_one a) = a
sums_last (sums_more b s a) = a

abbrev deep : ℕ → Negation → ℕ
deep n (compared c) = n
deep n (negated a) = deep (suc n) a

abbrev core : Negation → Compares
core (compared c) = c
core (negated a) = core a

abbrev ands_front : Ands → Option Ands
ands_front (ands_one a) = None
ands_front (ands_more b a) = Some b

abbrev ands_last : Ands → Negation
ands_last (ands_one a) = a
ands_last (ands_more b a) = a

abbrev ors_front : Ors → Option Ors
ors_front (ors_one a) = None
ors_front (ors_more b a) = Some b

abbrev ors_last : Ors → Ands
ors_last (ors_one a) = a
ors_last (ors_more b a) = a

signed-back : (a : Signed) (ss : List Additive) → add_signs (signed_signs ss a) (unsigned (signed_primary a)) ≡ add_signs ss a
signed-back (unsigned p) ss = refl
signed-back (signed s a) ss = signed-back a (s ∷ ss)

products_step-back : (a : Products) → add_scaled (products_front a) (products_last a) ≡ a
products_step-back (products_one a) = refl
products_step-back (products_more b s a) = refl

products-back : (a : Products) → add_scaled (products_front a) (add_signs (signed_signs [] (products_last a)) (unsigned (signed_primary (products_last a)))) ≡ a
products-back a = ap (add_scaled (products_front a)) (signed-back (products_last a) []) ∙ products_step-back a

sums_step-back : (a : Sums) → add_added (sums_front a) (sums_last a) ≡ a
sums_step-back (sums_one a) = refl
sums_step-back (sums_more b s a) = refl

sums-back : (a : Sums) → add_added (sums_front a) (add_scaled (products_front (sums_last a)) (add_signs (signed_signs [] (products_last (sums_last a))) (unsigned (signed_primary (products_last (sums_last a)))))) ≡ a
sums-back a = ap (add_added (sums_front a)) (products-back (sums_last a)) ∙ sums_step-back a

deep-back : (a : Negation) (n : ℕ) → add_nots (deep n a) (compared (core a)) ≡ add_nots n a
deep-back (compared c) n = refl
deep-back (negated a) n = deep-back a (suc n)

ands_step-back : (a : Ands) → add_and (ands_front a) (ands_last a) ≡ a
ands_step-back (ands_one a) = refl
ands_step-back (ands_more b a) = refl

ands-back : (a : Ands) → add_and (ands_front a) (add_nots (deep zero (ands_last a)) (compared (core (ands_last a)))) ≡ a
ands-back a = ap (add_and (ands_front a)) (deep-back (ands_last a) zero) ∙ ands_step-back a

ors_step-back : (a : Ors) → add_or (ors_front a) (ors_last a) ≡ a
ors_step-back (ors_one a) = refl
ors_step-back (ors_more b a) = refl

ors-back : (a : Ors) → add_or (ors_front a) (add_and (ands_front (ors_last a)) (add_nots (deep zero (ands_last (ors_last a))) (compared (core (ands_last (ors_last a)))))) ≡ a
ors-back a = ap (add_or (ors_front a)) (ands-back (ors_last a)) ∙ ors_step-back a

-- ---- what has been read after a form

abbrev at_products : List Opened → Upper → Option Related → Option Added → Products → Reading
at_products os u r a b = has os u (lower r a (products_front b) (signed_signs [] (products_last b))) (signed_primary (products_last b))

abbrev at_sums : List Opened → Upper → Option Related → Sums → Reading
at_sums os u r b = at_products os u r (sums_front b) (sums_last b)

abbrev pub at_compares : List Opened → Upper → Compares → Reading
at_compares os u (compares_one b) = at_sums os u None b
at_compares os u (compares_more c r b) = at_sums os u (Some (related c r)) b
at_compares os u (compares_none c) = has_none os u c
at_compares os u (compares_not_none c) = has_not_none os u c

abbrev at_ands : List Opened → List Picked → Option Ors → Option Ors → Ands → Reading
at_ands os ps test o a = at_compares os (upper ps test o (ands_front a) (deep zero (ands_last a))) (core (ands_last a))

abbrev at_ors : List Opened → List Picked → Option Ors → Ors → Reading
at_ors os ps test o = at_ands os ps test (ors_front o) (ors_last o)

abbrev upper_of_ors : List Picked → Ors → Upper
upper_of_ors ps o = upper ps None (ors_front o) (ands_front (ors_last o)) (deep zero (ands_last (ors_last o)))

abbrev pub upper_of : List Picked → Expression → Upper
upper_of ps (plain o) = upper_of_ors ps o
upper_of ps (conditional a test b) = upper_of (picked a test ∷ ps) b

abbrev pub core_of : Expression → Compares
core_of (plain o) = core (ands_last (ors_last o))
core_of (conditional a test b) = core_of b

abbrev pub at_expression : List Opened → Expression → Reading
at_expression os a = at_compares os (upper_of [] a) (core_of a)

expression-back : (a : Expression) (ps : List Picked) → expression_of (upper_of ps a) (core_of a) ≡ Some (add_picked ps a)
expression-back (plain o) ps = ap (λ x. Some (add_picked ps (plain x))) (ors-back o)
expression-back (conditional a test b) ps = expression-back b (picked a test ∷ ps)

-- a token that is read after a comparison as it is after a primary
abbrev pub Falls : Kind → Type 0
Falls t = (os : List Opened) (u : Upper) (w : Lower) (p : Primary) → operator os u w p t ≡ behind os u (compares_of w p) t

pub behind-back : (c : Compares) (os : List Opened) (u : Upper) (t : Kind) → Falls t → read (at_compares os u c) t ≡ behind os u c t
behind-back (compares_one b) os u t h = h os u (lower None (sums_front b) (products_front (sums_last b)) (signed_signs [] (products_last (sums_last b)))) (signed_primary (products_last (sums_last b))) ∙ ap (λ x. behind os u (compares_one x) t) (sums-back b)
behind-back (compares_more c r b) os u t h = h os u (lower (Some (related c r)) (sums_front b) (products_front (sums_last b)) (signed_signs [] (products_last (sums_last b)))) (signed_primary (products_last (sums_last b))) ∙ ap (λ x. behind os u (compares_more c r x) t) (sums-back b)
behind-back (compares_none c) os u t h = refl
behind-back (compares_not_none c) os u t h = refl

pub closed-back : (a : Expression) (os : List Opened) (t : Kind) (k : List Opened → Option Expression → Option Reading) → Falls t → ((u : Upper) (c : Compares) → behind os u c t ≡ k os (expression_of u c)) → read (at_expression os a) t ≡ k os (Some a)
closed-back a os t k h e = behind-back (core_of a) os (upper_of [] a) t h ∙ e (upper_of [] a) (core_of a) ∙ ap (k os) (expression-back a [])

whole_compares-back : (c : Compares) (os : List Opened) (u : Upper) → whole (at_compares os u c) ≡ exprs_after os (expression_of u c)
whole_compares-back (compares_one b) os u = ap (λ x. exprs_after os (expression_of u (compares_one x))) (sums-back b)
whole_compares-back (compares_more c r b) os u = ap (λ x. exprs_after os (expression_of u (compares_more c r x))) (sums-back b)
whole_compares-back (compares_none c) os u = refl
whole_compares-back (compares_not_none c) os u = refl

whole-back : (a : Expression) (os : List Opened) → whole (at_expression os a) ≡ exprs_after os (Some a)
whole-back a os = whole_compares-back (core_of a) os (upper_of [] a) ∙ ap (exprs_after os) (expression-back a [])

abbrev pub at_exprs : Exprs → Reading
at_exprs (single a) = at_expression [] a
at_exprs (tuple es a) = at_expression (listed es ∷ []) a
at_exprs (tuple_comma es) = wants (listed es ∷ []) no_upper no_lower

-- what has been read after them may end as them
pub exprs-back : (a : Exprs) → whole (at_exprs a) ≡ Some a
exprs-back (single a) = whole-back a []
exprs-back (tuple es a) = whole-back a (listed es ∷ [])
exprs-back (tuple_comma es) = refl

open-at : (c : Compares) (os : List Opened) (u : Upper) → open_in (at_compares os u c) ≡ os
open-at (compares_one b) os u = refl
open-at (compares_more c r b) os u = refl
open-at (compares_none c) os u = refl
open-at (compares_not_none c) os u = refl

pub exprs-stand : (a : Exprs) → reading_stands (at_exprs a)
exprs-stand (single a) = subst lists_stand (sym (open-at (core_of a) [] (upper_of [] a))) tt
exprs-stand (tuple es a) = subst lists_stand (sym (open-at (core_of a) (listed es ∷ []) (upper_of [] a))) (refl, tt)
exprs-stand (tuple_comma es) = (refl, tt)

pub single-undivided : (a : Expression) → IsTrue (undivided (at_expression [] a))
single-undivided a = ap one_below (open-at (core_of a) [] (upper_of [] a))

-- ---- the last token that was read

-- what holds of a reading holds of the one before it
pub record Holds (s r : Reading) : Type 0 where
  pub stands : reading_stands s
  pub narrows : IsTrue (narrow r) → IsTrue (narrow s)
  pub undivides : IsTrue (undivided r) → IsTrue (undivided s)

pub data Last (r : Reading) : Type 0 where
  at_start : r ≡ begun → Last r
  after : (s : Reading) (t : Kind) → read s t ≡ Some r → Holds s r → Last r

weaker : (os : List Opened) (b : Bool) → IsTrue (bare_below os false) → IsTrue (bare_below os b)
weaker [] b h = absurd (false≢true h)
weaker (opened u w k ∷ os) b h = h
weaker (listed es ∷ os) b h = h

any-narrow : (c : Compares) (os : List Opened) (u : Upper) → IsTrue (bare_below os false) → IsTrue (narrow (at_compares os u c))
any-narrow (compares_one b) os u h = weaker os _ h
any-narrow (compares_more c r b) os u h = weaker os _ h
any-narrow (compares_none c) os u h = h
any-narrow (compares_not_none c) os u h = h

on : {s r : Reading} → reading_stands s → (IsTrue (narrow r) → IsTrue (narrow s)) → (IsTrue (undivided r) → IsTrue (undivided s)) → Holds s r
on {s} {r} k n d = record { stands = k; narrows = n; undivides = d }

-- before a token behind a comparison
still : {r : Reading} (c : Compares) (os : List Opened) (u : Upper) → lists_stand os → (IsTrue (narrow r) → IsTrue (bare_below os false)) → (IsTrue (undivided r) → IsTrue (one_below os)) → Holds (at_compares os u c) r
still {r} c os u k n d = record { stands = subst lists_stand (sym (open-at c os u)) k; narrows = λ h. any-narrow c os u (n h); undivides = λ h. ap one_below (open-at c os u) ∙ d h }

display-last : (es : Elements) (os : List Opened) (u : Upper) (w : Lower) → lists_stand os → Last (has os u w (display (args es)))
display-last (elements_one a) os u w k = after (at_expression (opened u w (in_display None) ∷ os) a) close_bracket (closed-back a _ close_bracket close_bracket_after (λ os u w p. refl) (λ u c. refl)) (still (core_of a) _ _ k (λ h. h) (λ h. h))
display-last (elements_more es a) os u w k = after (at_expression (opened u w (in_display (Some es)) ∷ os) a) close_bracket (closed-back a _ close_bracket close_bracket_after (λ os u w p. refl) (λ u c. refl)) (still (core_of a) _ _ k (λ h. h) (λ h. h))

call-last : (es : Elements) (f : Callee) (os : List Opened) (u : Upper) (w : Lower) → lists_stand os → Last (has os u w (call f (args es)))
call-last (elements_one a) f os u w k = after (at_expression (opened u w (in_call f None) ∷ os) a) close_parenthesis (closed-back a _ close_parenthesis close_parenthesis_after (λ os u w p. refl) (λ u c. refl)) (still (core_of a) _ _ k (λ h. h) (λ h. h))
call-last (elements_more es a) f os u w k = after (at_expression (opened u w (in_call f (Some es)) ∷ os) a) close_parenthesis (closed-back a _ close_parenthesis close_parenthesis_after (λ os u w p. refl) (λ u c. refl)) (still (core_of a) _ _ k (λ h. h) (λ h. h))

dict-last : (ps : Pairs) (os : List Opened) (u : Upper) (w : Lower) → lists_stand os → Last (has os u w (dict (entries ps)))
dict-last (pairs_one a b) os u w k = after (at_expression (opened u w (in_pair None a) ∷ os) b) close_brace (closed-back b _ close_brace close_brace_after (λ os u w p. refl) (λ u c. refl)) (still (core_of b) _ _ k (λ h. h) (λ h. h))
dict-last (pairs_more ps a b) os u w k = after (at_expression (opened u w (in_pair (Some ps) a) ∷ os) b) close_brace (closed-back b _ close_brace close_brace_after (λ os u w p. refl) (λ u c. refl)) (still (core_of b) _ _ k (λ h. h) (λ h. h))

has-last : (p : Primary) (os : List Opened) (u : Upper) (w : Lower) → lists_stand os → Last (has os u w p)
has-last (name n) os u w k = after (wants os u w) (t.Name n) refl (on k (λ h. h) (λ h. h))
has-last (number n) os u w k = after (wants os u w) (t.Number n) refl (on k (λ h. h) (λ h. h))
has-last (text n) os u w k = after (wants os u w) (t.Text n) refl (on k (λ h. h) (λ h. h))
has-last nothing os u w k = after (wants os u w) none_word refl (on k (λ h. h) (λ h. h))
has-last truth os u w k = after (wants os u w) true_word refl (on k (λ h. h) (λ h. h))
has-last falsity os u w k = after (wants os u w) false_word refl (on k (λ h. h) (λ h. h))
has-last empty os u w k = after (wants (opened u w in_group ∷ os) no_upper no_lower) close_parenthesis refl (on k (λ h. h) (λ h. h))
has-last (group (tuple es a)) os u w k = after (at_expression (listed es ∷ opened u w in_group ∷ os) a) close_parenthesis (closed-back a _ close_parenthesis close_parenthesis_after (λ os u w p. refl) (λ u c. refl)) (still (core_of a) _ _ (refl, k) (λ h. h) (λ h. h))
has-last (group (tuple_comma es)) os u w k = after (wants (listed es ∷ opened u w in_group ∷ os) no_upper no_lower) close_parenthesis refl (on (refl, k) (λ h. h) (λ h. h))
has-last (group (single a)) os u w k = after (at_expression (opened u w in_group ∷ os) a) close_parenthesis (closed-back a _ close_parenthesis close_parenthesis_after (λ os u w p. refl) (λ u c. refl)) (still (core_of a) _ _ k (λ h. h) (λ h. h))
has-last (display no_args) os u w k = after (wants (opened u w (in_display None) ∷ os) no_upper no_lower) close_bracket refl (on k (λ h. h) (λ h. h))
has-last (display (args es)) os u w k = display-last es os u w k
has-last (display (args_comma es)) os u w k = after (wants (opened u w (in_display (Some es)) ∷ os) no_upper no_lower) close_bracket refl (on k (λ h. h) (λ h. h))
has-last (dict no_entries) os u w k = after (wants (opened u w (in_dict None) ∷ os) no_upper no_lower) close_brace refl (on k (λ h. h) (λ h. h))
has-last (dict (entries ps)) os u w k = dict-last ps os u w k
has-last (dict (entries_comma ps)) os u w k = after (wants (opened u w (in_dict (Some ps)) ∷ os) no_upper no_lower) close_brace refl (on k (λ h. h) (λ h. h))
has-last (call f no_args) os u w k = after (wants (opened u w (in_call f None) ∷ os) no_upper no_lower) close_parenthesis refl (on k (λ h. h) (λ h. h))
has-last (call f (args es)) os u w k = call-last es f os u w k
has-last (call f (args_comma es)) os u w k = after (wants (opened u w (in_call f (Some es)) ∷ os) no_upper no_lower) close_parenthesis refl (on k (λ h. h) (λ h. h))
has-last (index p a) os u w k = after (at_expression (opened u w (in_index p) ∷ os) a) close_bracket (closed-back a _ close_bracket close_bracket_after (λ os u w p. refl) (λ u c. refl)) (still (core_of a) _ _ k (λ h. h) (λ h. h))
has-last (slice p a unbounded) os u w k = after (wants (opened u w (in_slice p a) ∷ os) no_upper no_lower) close_bracket refl (on k (λ h. h) (λ h. h))
has-last (slice p a (bounded b)) os u w k = after (at_expression (opened u w (in_slice p a) ∷ os) b) close_bracket (closed-back b _ close_bracket close_bracket_after (λ os u w p. refl) (λ u c. refl)) (still (core_of b) _ _ k (λ h. h) (λ h. h))

display_element-last : (es : Elements) (os : List Opened) (u : Upper) (w : Lower) → lists_stand os → Last (wants (opened u w (in_display (Some es)) ∷ os) no_upper no_lower)
display_element-last (elements_one a) os u w k = after (at_expression (opened u w (in_display None) ∷ os) a) comma (closed-back a _ comma comma_after (λ os u w p. refl) (λ u c. refl)) (still (core_of a) _ _ k (λ h. h) (λ h. h))
display_element-last (elements_more es a) os u w k = after (at_expression (opened u w (in_display (Some es)) ∷ os) a) comma (closed-back a _ comma comma_after (λ os u w p. refl) (λ u c. refl)) (still (core_of a) _ _ k (λ h. h) (λ h. h))

call_element-last : (es : Elements) (f : Callee) (os : List Opened) (u : Upper) (w : Lower) → lists_stand os → Last (wants (opened u w (in_call f (Some es)) ∷ os) no_upper no_lower)
call_element-last (elements_one a) f os u w k = after (at_expression (opened u w (in_call f None) ∷ os) a) comma (closed-back a _ comma comma_after (λ os u w p. refl) (λ u c. refl)) (still (core_of a) _ _ k (λ h. h) (λ h. h))
call_element-last (elements_more es a) f os u w k = after (at_expression (opened u w (in_call f (Some es)) ∷ os) a) comma (closed-back a _ comma comma_after (λ os u w p. refl) (λ u c. refl)) (still (core_of a) _ _ k (λ h. h) (λ h. h))

pair-last : (ps : Pairs) (os : List Opened) (u : Upper) (w : Lower) → lists_stand os → Last (wants (opened u w (in_dict (Some ps)) ∷ os) no_upper no_lower)
pair-last (pairs_one a b) os u w k = after (at_expression (opened u w (in_pair None a) ∷ os) b) comma (closed-back b _ comma comma_after (λ os u w p. refl) (λ u c. refl)) (still (core_of b) _ _ k (λ h. h) (λ h. h))
pair-last (pairs_more ps a b) os u w k = after (at_expression (opened u w (in_pair (Some ps) a) ∷ os) b) comma (closed-back b _ comma comma_after (λ os u w p. refl) (λ u c. refl)) (still (core_of b) _ _ k (λ h. h) (λ h. h))

bracket-last : (b : Bracket) (os : List Opened) (u : Upper) (w : Lower) → lists_stand os → Last (wants (opened u w b ∷ os) no_upper no_lower)
bracket-last in_group os u w k = after (wants os u w) open_parenthesis refl (on k (λ h. h) (λ h. h))
bracket-last (in_display None) os u w k = after (wants os u w) open_bracket refl (on k (λ h. h) (λ h. h))
bracket-last (in_display (Some es)) os u w k = display_element-last es os u w k
bracket-last (in_dict None) os u w k = after (wants os u w) open_brace refl (on k (λ h. h) (λ h. h))
bracket-last (in_dict (Some ps)) os u w k = pair-last ps os u w k
bracket-last (in_pair ps a) os u w k = after (at_expression (opened u w (in_dict ps) ∷ os) a) colon (closed-back a _ colon colon_after (λ os u w p. refl) (λ u c. refl)) (still (core_of a) _ _ k (λ h. h) (λ h. h))
bracket-last (in_call (function p) None) os u w k = after (has os u w p) open_parenthesis refl (on k (λ h. h) (λ h. h))
bracket-last (in_call (method p n) None) os u w k = after (after_method os u w p n) open_parenthesis refl (on k (λ h. h) (λ h. h))
bracket-last (in_call f (Some es)) os u w k = call_element-last es f os u w k
bracket-last (in_index p) os u w k = after (has os u w p) open_bracket refl (on k (λ h. h) (λ h. h))
bracket-last (in_slice p unbounded) os u w k = after (wants (opened u w (in_index p) ∷ os) no_upper no_lower) colon refl (on k (λ h. h) (λ h. h))
bracket-last (in_slice p (bounded a)) os u w k = after (at_expression (opened u w (in_index p) ∷ os) a) colon (closed-back a _ colon colon_after (λ os u w p. refl) (λ u c. refl)) (still (core_of a) _ _ k (λ h. h) (λ h. h))

more-undivided : (es xs : Elements) (os : List Opened) → IsTrue (one_below (listed xs ∷ os)) → IsTrue (one_below (listed es ∷ os))
more-undivided es xs [] h = h
more-undivided es xs (o ∷ os) h = h

listed-last : (es : Elements) (os : List Opened) → IsTrue (directly os) → lists_stand os → Last (wants (listed es ∷ os) no_upper no_lower)
listed-last (elements_one a) [] d k = after (at_expression [] a) comma (closed-back a _ comma comma_after (λ os u w p. refl) (λ u c. refl)) (still (core_of a) _ _ k (λ h. h) (λ h. refl))
listed-last (elements_one a) (opened v x in_group ∷ os) d k = after (at_expression (opened v x in_group ∷ os) a) comma (closed-back a _ comma comma_after (λ os u w p. refl) (λ u c. refl)) (still (core_of a) _ _ k (λ h. h) (λ h. h))
listed-last (elements_one a) _ d k = absurd (false≢true d)
listed-last (elements_more es a) os d k = after (at_expression (listed es ∷ os) a) comma (closed-back a _ comma comma_after (λ os u w p. refl) (λ u c. refl)) (still (core_of a) _ _ (d, k) (λ h. h) (more-undivided es (elements_more es a) os))

opened-last : (os : List Opened) → lists_stand os → Last (wants os no_upper no_lower)
opened-last [] k = at_start refl
opened-last (opened u w b ∷ os) k = bracket-last b os u w k
opened-last (listed es ∷ os) k = listed-last es os k.0 k.1

upper-last : (u : Upper) (os : List Opened) → lists_stand os → Last (wants os u no_lower)
upper-last (upper ps test o a (suc n)) os k = after (wants os (upper ps test o a n) no_lower) not_word refl (on k (λ h. weaker os _ h) (λ h. h))
upper-last (upper ps test o (Some a) zero) os k =
    after (at_ands os ps test o a) and_word (behind-back (core (ands_last a)) os _ and_word (λ os u w p. refl) ∙ ap (λ x. Some (wants os (upper ps test o (Some x) zero) no_lower)) (ands-back a)) (still (core (ands_last a)) os _ k (λ h. h) (λ h. h))
upper-last (upper ps test (Some o) None zero) os k =
    after (at_ors os ps test o) or_word (behind-back (core (ands_last (ors_last o))) os _ or_word (λ os u w p. refl) ∙ ap (λ x. Some (wants os (upper ps test (Some x) None zero) no_lower)) (ors-back o)) (still (core (ands_last (ors_last o))) os _ k (λ h. h) (λ h. h))
upper-last (upper ps (Some b) None None zero) os k =
    after (at_ors os ps None b) if_word (behind-back (core (ands_last (ors_last b))) os _ if_word (λ os u w p. refl) ∙ ap (λ x. Some (wants os (upper ps (Some x) None None zero) no_lower)) (ors-back b)) (still (core (ands_last (ors_last b))) os _ k (λ h. h) (λ h. h))
upper-last (upper (picked a b ∷ ps) None None None zero) os k =
    after (at_ors os ps (Some a) b) else_word (behind-back (core (ands_last (ors_last b))) os _ else_word (λ os u w p. refl) ∙ ap (λ x. Some (wants os (upper (picked a x ∷ ps) None None None zero) no_lower)) (ors-back b)) (still (core (ands_last (ors_last b))) os _ k (λ h. h) (λ h. h))
upper-last (upper [] None None None zero) os k = opened-last os k

related-last : (r : Relational) (c : Compares) (os : List Opened) (u : Upper) → lists_stand os → Last (wants os u (lower (Some (related c r)) None None []))
related-last equal c os u k = after (at_compares os u c) equal_sign (behind-back c os u equal_sign (λ os u w p. refl)) (still c os u k (λ h. h) (λ h. h))
related-last not_equal c os u k = after (at_compares os u c) not_equal_sign (behind-back c os u not_equal_sign (λ os u w p. refl)) (still c os u k (λ h. h) (λ h. h))
related-last less c os u k = after (at_compares os u c) less_sign (behind-back c os u less_sign (λ os u w p. refl)) (still c os u k (λ h. h) (λ h. h))
related-last at_most c os u k = after (at_compares os u c) at_most_sign (behind-back c os u at_most_sign (λ os u w p. refl)) (still c os u k (λ h. h) (λ h. h))
related-last greater c os u k = after (at_compares os u c) more_sign (behind-back c os u more_sign (λ os u w p. refl)) (still c os u k (λ h. h) (λ h. h))
related-last at_least c os u k = after (at_compares os u c) at_least_sign (behind-back c os u at_least_sign (λ os u w p. refl)) (still c os u k (λ h. h) (λ h. h))
related-last within c os u k = after (at_compares os u c) in_word (behind-back c os u in_word (λ os u w p. refl)) (still c os u k (λ h. h) (λ h. h))
related-last not_within c os u k = after (after_not os u c) in_word refl (on k (λ h. h) (λ h. h))

added-last : (s : Additive) (b : Sums) (r : Option Related) (os : List Opened) (u : Upper) → lists_stand os → Last (wants os u (lower r (Some (added b s)) None []))
added-last plus b r os u k = after (at_sums os u r b) plus_sign (ap (λ x. Some (wants os u (lower r (Some (added x plus)) None []))) (sums-back b)) (on k (λ h. weaker os _ h) (λ h. h))
added-last minus b r os u k = after (at_sums os u r b) minus_sign (ap (λ x. Some (wants os u (lower r (Some (added x minus)) None []))) (sums-back b)) (on k (λ h. weaker os _ h) (λ h. h))

scaled-last : (s : Multiplicative) (b : Products) (a : Option Added) (r : Option Related) (os : List Opened) (u : Upper) → lists_stand os → Last (wants os u (lower r a (Some (scaled b s)) []))
scaled-last times b a r os u k = after (at_products os u r a b) times_sign (ap (λ x. Some (wants os u (lower r a (Some (scaled x times)) []))) (products-back b)) (on k (λ h. weaker os _ h) (λ h. h))
scaled-last floor b a r os u k = after (at_products os u r a b) floor_sign (ap (λ x. Some (wants os u (lower r a (Some (scaled x floor)) []))) (products-back b)) (on k (λ h. weaker os _ h) (λ h. h))
scaled-last modulo b a r os u k = after (at_products os u r a b) mod_sign (ap (λ x. Some (wants os u (lower r a (Some (scaled x modulo)) []))) (products-back b)) (on k (λ h. weaker os _ h) (λ h. h))

wants-last : (w : Lower) (u : Upper) (os : List Opened) → lists_stand os → Last (wants os u w)
wants-last (lower r a m (plus ∷ ss)) u os k = after (wants os u (lower r a m ss)) plus_sign refl (on k (λ h. weaker os _ h) (λ h. h))
wants-last (lower r a m (minus ∷ ss)) u os k = after (wants os u (lower r a m ss)) minus_sign refl (on k (λ h. weaker os _ h) (λ h. h))
wants-last (lower r a (Some (scaled b s)) []) u os k = scaled-last s b a r os u k
wants-last (lower r (Some (added b s)) None []) u os k = added-last s b r os u k
wants-last (lower (Some (related c r)) None None []) u os k = related-last r c os u k
wants-last (lower None None None []) u os k = upper-last u os k

-- each reading but the first is what one token makes of another
pub reading-last : (r : Reading) → reading_stands r → Last r
reading-last (wants os u w) k = wants-last w u os k
reading-last (has os u w p) k = has-last p os u w k
reading-last (has_none os u c) k = after (after_is os u c) none_word refl (on k (λ h. h) (λ h. h))
reading-last (has_not_none os u c) k = after (after_is_not os u c) none_word refl (on k (λ h. h) (λ h. h))
reading-last (after_is os u c) k = after (at_compares os u c) is_word (behind-back c os u is_word (λ os u w p. refl)) (still c os u k (λ h. h) (λ h. h))
reading-last (after_is_not os u c) k = after (after_is os u c) not_word refl (on k (λ h. h) (λ h. h))
reading-last (after_not os u c) k = after (at_compares os u c) not_word (behind-back c os u not_word (λ os u w p. refl)) (still c os u k (λ h. h) (λ h. h))
reading-last (after_dot os u w p) k = after (has os u w p) dot refl (on k (λ h. h) (λ h. h))
reading-last (after_method os u w p n) k = after (after_dot os u w p) (t.Name n) refl (on k (λ h. h) (λ h. h))
