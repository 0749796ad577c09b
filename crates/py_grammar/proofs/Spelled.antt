-- One more token of an expression is one more token of what it spells.
use Rattle.std.proofs.Common.{◌≡◌, ℕ, zero, suc, List, [], ◌∷◌, Option, Some, None, refl, ap, ◌∙◌}
use Rattle.py_token.specs.declared.kinds.Kind.{Kind}
use Rattle.py_token.specs.declared.kinds.Kind.TheVariants as t
use Rattle.py_grammar.specs.Words.{and_word, or_word, not_word, if_word, else_word, in_word, is_word, none_word, true_word, false_word, equal_sign, not_equal_sign, at_most_sign, at_least_sign, floor_sign, plus_sign, minus_sign, times_sign, mod_sign, less_sign, more_sign, open_parenthesis, close_parenthesis, open_bracket, close_bracket, open_brace, close_brace, colon, comma, dot}
use Rattle.py_grammar.specs.Expressions.{Expression, plain, conditional, Ors, Ands, Negation, compared, negated, Compares, compares_none, compares_not_none, Sums, Additive, plus, minus, Products, Multiplicative, times, floor, modulo, Signed, unsigned, signed, Primary, Exprs, Elements, Pairs, additive_sign, multiplicative_sign, spell_expression, spell_ors, spell_ands, spell_negation, spell_compares, spell_sums, spell_products, spell_signed, spell_primary, spell_exprs, spell_callee, spell_bound, spell_args, spell_elements, spell_entries, spell_pairs}
use Rattle.py_grammar.specs.Readings.{Picked, picked, Upper, upper, Related, related, Added, added, Scaled, scaled, Lower, lower, in_group, in_display, in_dict, in_pair, in_call, in_index, in_slice, Opened, opened, listed, Reading, wants, has, has_none, has_not_none, after_is, after_is_not, after_not, after_dot, after_method, add_signs, add_scaled, add_added, add_related, add_nots, add_and, add_or, add_picked, add_element, add_pair, args_of, entries_of, compares_of, expression_of, close_parenthesis_after, close_bracket_after, close_brace_after, comma_after, colon_after, if_after, else_after, or_after, and_after, behind, add, scale, operator, close_parenthesis_at, close_bracket_at, close_brace_at, colon_at, if_nothing, deny, sign, operand, is_what, is_not_what, not_what, dot_what, method_what, read, exprs_after, exprs_at, if_begun, whole}
use Rattle.py_grammar.specs.Open.{spell_picked, spell_test, front_or, front_and, nots, front_related, front_added, front_scaled, signs, spell_upper, spell_lower, front_element, front_pair, spell_opened, spell_reading}

-- ---- what is closed spells what was open

add_signs-spelled : (ss : List Additive) (a : Signed) (rest : List Kind) → spell_signed (add_signs ss a) rest ≡ signs ss (spell_signed a rest)
add_signs-spelled [] a rest = refl
add_signs-spelled (s ∷ ss) a rest = add_signs-spelled ss (signed s a) rest

add_scaled-spelled : (m : Option Scaled) (a : Signed) (rest : List Kind) → spell_products (add_scaled m a) rest ≡ front_scaled m (spell_signed a rest)
add_scaled-spelled None a rest = refl
add_scaled-spelled (Some (scaled b s)) a rest = refl

add_added-spelled : (m : Option Added) (a : Products) (rest : List Kind) → spell_sums (add_added m a) rest ≡ front_added m (spell_products a rest)
add_added-spelled None a rest = refl
add_added-spelled (Some (added b s)) a rest = refl

add_related-spelled : (m : Option Related) (a : Sums) (rest : List Kind) → spell_compares (add_related m a) rest ≡ front_related m (spell_sums a rest)
add_related-spelled None a rest = refl
add_related-spelled (Some (related b s)) a rest = refl

add_nots-spelled : (n : ℕ) (a : Negation) (rest : List Kind) → spell_negation (add_nots n a) rest ≡ nots n (spell_negation a rest)
add_nots-spelled zero a rest = refl
add_nots-spelled (suc n) a rest = add_nots-spelled n (negated a) rest

add_and-spelled : (o : Option Ands) (a : Negation) (rest : List Kind) → spell_ands (add_and o a) rest ≡ front_and o (spell_negation a rest)
add_and-spelled None a rest = refl
add_and-spelled (Some o) a rest = refl

add_or-spelled : (o : Option Ors) (a : Ands) (rest : List Kind) → spell_ors (add_or o a) rest ≡ front_or o (spell_ands a rest)
add_or-spelled None a rest = refl
add_or-spelled (Some o) a rest = refl

add_picked-spelled : (ps : List Picked) (a : Expression) (rest : List Kind) → spell_expression (add_picked ps a) rest ≡ spell_picked ps (spell_expression a rest)
add_picked-spelled [] a rest = refl
add_picked-spelled (picked b test ∷ ps) a rest = add_picked-spelled ps (conditional b test a) rest

pub add_element-spelled : (es : Option Elements) (a : Expression) (rest : List Kind) → spell_elements (add_element es a) rest ≡ front_element es (spell_expression a rest)
add_element-spelled None a rest = refl
add_element-spelled (Some es) a rest = refl

pub add_pair-spelled : (ps : Option Pairs) (a b : Expression) (rest : List Kind) → spell_pairs (add_pair ps a b) rest ≡ front_pair ps (spell_expression a (colon ∷ spell_expression b rest))
add_pair-spelled None a b rest = refl
add_pair-spelled (Some ps) a b rest = refl

args_of-spelled : (es : Option Elements) (rest : List Kind) → spell_args (args_of es) rest ≡ front_element es rest
args_of-spelled None rest = refl
args_of-spelled (Some es) rest = refl

entries_of-spelled : (ps : Option Pairs) (rest : List Kind) → spell_entries (entries_of ps) rest ≡ front_pair ps rest
entries_of-spelled None rest = refl
entries_of-spelled (Some ps) rest = refl

products-spelled : (m : Option Scaled) (ss : List Additive) (p : Primary) (rest : List Kind) → spell_products (add_scaled m (add_signs ss (unsigned p))) rest ≡ front_scaled m (signs ss (spell_primary p rest))
products-spelled m ss p rest = add_scaled-spelled m _ rest ∙ ap (front_scaled m) (add_signs-spelled ss (unsigned p) rest)

sums-spelled : (a : Option Added) (m : Option Scaled) (ss : List Additive) (p : Primary) (rest : List Kind) → spell_sums (add_added a (add_scaled m (add_signs ss (unsigned p)))) rest ≡ front_added a (front_scaled m (signs ss (spell_primary p rest)))
sums-spelled a m ss p rest = add_added-spelled a _ rest ∙ ap (front_added a) (products-spelled m ss p rest)

pub compares_of-spelled : (w : Lower) (p : Primary) (rest : List Kind) → spell_compares (compares_of w p) rest ≡ spell_lower w (spell_primary p rest)
compares_of-spelled (lower r a m ss) p rest = add_related-spelled r _ rest ∙ ap (front_related r) (sums-spelled a m ss p rest)

ands-spelled : (a : Option Ands) (n : ℕ) (c : Compares) (rest : List Kind) → spell_ands (add_and a (add_nots n (compared c))) rest ≡ front_and a (nots n (spell_compares c rest))
ands-spelled a n c rest = add_and-spelled a _ rest ∙ ap (front_and a) (add_nots-spelled n (compared c) rest)

pub ors-spelled : (o : Option Ors) (a : Option Ands) (n : ℕ) (c : Compares) (rest : List Kind) → spell_ors (add_or o (add_and a (add_nots n (compared c)))) rest ≡ front_or o (front_and a (nots n (spell_compares c rest)))
ors-spelled o a n c rest = add_or-spelled o _ rest ∙ ap (front_or o) (ands-spelled a n c rest)

pub picked-spelled : (ps : List Picked) (o : Option Ors) (a : Option Ands) (n : ℕ) (c : Compares) (rest : List Kind) → spell_expression (add_picked ps (plain (add_or o (add_and a (add_nots n (compared c)))))) rest ≡ spell_picked ps (front_or o (front_and a (nots n (spell_compares c rest))))
picked-spelled ps o a n c rest = add_picked-spelled ps _ rest ∙ ap (spell_picked ps) (ors-spelled o a n c rest)

pub chosen-spelled : (ps : List Picked) (b : Ors) (o : Option Ors) (a : Option Ands) (n : ℕ) (c : Compares) (e : Expression) (rest : List Kind) → spell_expression (add_picked ps (conditional b (add_or o (add_and a (add_nots n (compared c)))) e)) rest ≡ spell_picked ps (spell_ors b (if_word ∷ front_or o (front_and a (nots n (spell_compares c (else_word ∷ spell_expression e rest))))))
chosen-spelled ps b o a n c e rest = add_picked-spelled ps _ rest ∙ ap (λ x. spell_picked ps (spell_ors b (if_word ∷ x))) (ors-spelled o a n c _)

-- ---- one more token in an expression

abbrev pub Adds : (List Kind → List Kind) → Kind → Option Reading → Type 0
Adds before t None = Unit {0}
Adds before t (Some r) = (rest : List Kind) → spell_reading r rest ≡ before (t ∷ rest)

-- it spells so, if there is one
abbrev pub Spells : Option Expression → (List Kind → List Kind) → Type 0
Spells None f = Unit {0}
Spells (Some a) f = (rest : List Kind) → spell_expression a rest ≡ f rest

pub expression_of-spelled : (u : Upper) (c : Compares) → Spells (expression_of u c) (λ rest. spell_upper u (spell_compares c rest))
expression_of-spelled (upper ps None o a n) c = picked-spelled ps o a n c
expression_of-spelled (upper ps (Some b) o a n) c = tt

close_parenthesis_after-adds : (os : List Opened) (a : Option Expression) (f : List Kind → List Kind) → Spells a f → Adds (λ rest. spell_opened os (f rest)) close_parenthesis (close_parenthesis_after os a)
close_parenthesis_after-adds (opened u w in_group ∷ os) (Some a) f e = λ rest. ap (λ x. spell_opened os (spell_upper u (spell_lower w (open_parenthesis ∷ x)))) (e (close_parenthesis ∷ rest))
close_parenthesis_after-adds (listed es ∷ opened u w in_group ∷ os) (Some a) f e = λ rest. ap (λ x. spell_opened os (spell_upper u (spell_lower w (open_parenthesis ∷ spell_elements es (comma ∷ x))))) (e (close_parenthesis ∷ rest))
close_parenthesis_after-adds (opened u w (in_call g es) ∷ os) (Some a) f e =
    λ rest. ap (λ x. spell_opened os (spell_upper u (spell_lower w (spell_callee g (open_parenthesis ∷ x))))) (add_element-spelled es a (close_parenthesis ∷ rest) ∙ ap (front_element es) (e (close_parenthesis ∷ rest)))
close_parenthesis_after-adds _ _ f e = tt

close_bracket_after-adds : (os : List Opened) (a : Option Expression) (f : List Kind → List Kind) → Spells a f → Adds (λ rest. spell_opened os (f rest)) close_bracket (close_bracket_after os a)
close_bracket_after-adds (opened u w (in_display es) ∷ os) (Some a) f e =
    λ rest. ap (λ x. spell_opened os (spell_upper u (spell_lower w (open_bracket ∷ x)))) (add_element-spelled es a (close_bracket ∷ rest) ∙ ap (front_element es) (e (close_bracket ∷ rest)))
close_bracket_after-adds (opened u w (in_index p) ∷ os) (Some a) f e = λ rest. ap (λ x. spell_opened os (spell_upper u (spell_lower w (spell_primary p (open_bracket ∷ x))))) (e (close_bracket ∷ rest))
close_bracket_after-adds (opened u w (in_slice p b) ∷ os) (Some a) f e =
    λ rest. ap (λ x. spell_opened os (spell_upper u (spell_lower w (spell_primary p (open_bracket ∷ spell_bound b (colon ∷ x)))))) (e (close_bracket ∷ rest))
close_bracket_after-adds _ _ f e = tt

close_brace_after-adds : (os : List Opened) (a : Option Expression) (f : List Kind → List Kind) → Spells a f → Adds (λ rest. spell_opened os (f rest)) close_brace (close_brace_after os a)
close_brace_after-adds (opened u w (in_pair ps b) ∷ os) (Some a) f e =
    λ rest. ap (λ x. spell_opened os (spell_upper u (spell_lower w (open_brace ∷ x)))) (add_pair-spelled ps b a (close_brace ∷ rest) ∙ ap (λ x. front_pair ps (spell_expression b (colon ∷ x))) (e (close_brace ∷ rest)))
close_brace_after-adds _ _ f e = tt

comma_after-adds : (os : List Opened) (a : Option Expression) (f : List Kind → List Kind) → Spells a f → Adds (λ rest. spell_opened os (f rest)) comma (comma_after os a)
comma_after-adds (opened u w (in_display es) ∷ os) (Some a) f e =
    λ rest. ap (λ x. spell_opened os (spell_upper u (spell_lower w (open_bracket ∷ x)))) (add_element-spelled es a (comma ∷ rest) ∙ ap (front_element es) (e (comma ∷ rest)))
comma_after-adds (opened u w (in_call g es) ∷ os) (Some a) f e =
    λ rest. ap (λ x. spell_opened os (spell_upper u (spell_lower w (spell_callee g (open_parenthesis ∷ x))))) (add_element-spelled es a (comma ∷ rest) ∙ ap (front_element es) (e (comma ∷ rest)))
comma_after-adds (opened u w (in_pair ps b) ∷ os) (Some a) f e =
    λ rest. ap (λ x. spell_opened os (spell_upper u (spell_lower w (open_brace ∷ x)))) (add_pair-spelled ps b a (comma ∷ rest) ∙ ap (λ x. front_pair ps (spell_expression b (colon ∷ x))) (e (comma ∷ rest)))
comma_after-adds (opened u w in_group ∷ os) (Some a) f e = λ rest. ap (λ x. spell_opened os (spell_upper u (spell_lower w (open_parenthesis ∷ x)))) (e (comma ∷ rest))
comma_after-adds (listed es ∷ os) (Some a) f e = λ rest. ap (λ x. spell_opened os (spell_elements es (comma ∷ x))) (e (comma ∷ rest))
comma_after-adds [] (Some a) f e = λ rest. e (comma ∷ rest)
comma_after-adds _ _ f e = tt

colon_after-adds : (os : List Opened) (a : Option Expression) (f : List Kind → List Kind) → Spells a f → Adds (λ rest. spell_opened os (f rest)) colon (colon_after os a)
colon_after-adds (opened u w (in_dict ps) ∷ os) (Some a) f e = λ rest. ap (λ x. spell_opened os (spell_upper u (spell_lower w (open_brace ∷ front_pair ps x)))) (e (colon ∷ rest))
colon_after-adds (opened u w (in_index p) ∷ os) (Some a) f e = λ rest. ap (λ x. spell_opened os (spell_upper u (spell_lower w (spell_primary p (open_bracket ∷ x))))) (e (colon ∷ rest))
colon_after-adds _ _ f e = tt

if_after-adds : (os : List Opened) (u : Upper) (c : Compares) → Adds (λ rest. spell_opened os (spell_upper u (spell_compares c rest))) if_word (if_after os u c)
if_after-adds os (upper ps None o a n) c = λ rest. ap (λ x. spell_opened os (spell_picked ps x)) (ors-spelled o a n c (if_word ∷ rest))
if_after-adds os (upper ps (Some b) o a n) c = tt

else_after-adds : (os : List Opened) (u : Upper) (c : Compares) → Adds (λ rest. spell_opened os (spell_upper u (spell_compares c rest))) else_word (else_after os u c)
else_after-adds os (upper ps None o a n) c = tt
else_after-adds os (upper ps (Some b) o a n) c = λ rest. ap (λ x. spell_opened os (spell_picked ps (spell_ors b (if_word ∷ x)))) (ors-spelled o a n c (else_word ∷ rest))

or_after-adds : (os : List Opened) (u : Upper) (c : Compares) → Adds (λ rest. spell_opened os (spell_upper u (spell_compares c rest))) or_word (Some (or_after os u c))
or_after-adds os (upper ps test o a n) c = λ rest. ap (λ x. spell_opened os (spell_picked ps (spell_test test x))) (ors-spelled o a n c (or_word ∷ rest))

and_after-adds : (os : List Opened) (u : Upper) (c : Compares) → Adds (λ rest. spell_opened os (spell_upper u (spell_compares c rest))) and_word (Some (and_after os u c))
and_after-adds os (upper ps test o a n) c = λ rest. ap (λ x. spell_opened os (spell_picked ps (spell_test test (front_or o x)))) (ands-spelled a n c (and_word ∷ rest))

behind-adds : (os : List Opened) (u : Upper) (c : Compares) (t : Kind) → Adds (λ rest. spell_opened os (spell_upper u (spell_compares c rest))) t (behind os u c t)
behind-adds os u c equal_sign = λ rest. refl
behind-adds os u c not_equal_sign = λ rest. refl
behind-adds os u c less_sign = λ rest. refl
behind-adds os u c at_most_sign = λ rest. refl
behind-adds os u c more_sign = λ rest. refl
behind-adds os u c at_least_sign = λ rest. refl
behind-adds os u c in_word = λ rest. refl
behind-adds os u c not_word = λ rest. refl
behind-adds os u c is_word = λ rest. refl
behind-adds os u c and_word = and_after-adds os u c
behind-adds os u c or_word = or_after-adds os u c
behind-adds os u c if_word = if_after-adds os u c
behind-adds os u c else_word = else_after-adds os u c
behind-adds os u c close_parenthesis = close_parenthesis_after-adds os (expression_of u c) _ (expression_of-spelled u c)
behind-adds os u c close_bracket = close_bracket_after-adds os (expression_of u c) _ (expression_of-spelled u c)
behind-adds os u c close_brace = close_brace_after-adds os (expression_of u c) _ (expression_of-spelled u c)
behind-adds os u c comma = comma_after-adds os (expression_of u c) _ (expression_of-spelled u c)
behind-adds os u c colon = colon_after-adds os (expression_of u c) _ (expression_of-spelled u c)
behind-adds os u c _ = tt

adds_same : (f g : List Kind → List Kind) (t : Kind) (r : Option Reading) → ((rest : List Kind) → f rest ≡ g rest) → Adds f t r → Adds g t r
adds_same f g t None e h = tt
adds_same f g t (Some r) e h = λ rest. h rest ∙ e (t ∷ rest)

primary-adds : (os : List Opened) (u : Upper) (w : Lower) (p : Primary) (t : Kind) → Adds (λ rest. spell_opened os (spell_upper u (spell_lower w (spell_primary p rest)))) t (behind os u (compares_of w p) t)
primary-adds os u w p t = adds_same (λ rest. spell_opened os (spell_upper u (spell_compares (compares_of w p) rest))) _ t (behind os u (compares_of w p) t) (λ rest. ap (λ x. spell_opened os (spell_upper u x)) (compares_of-spelled w p rest)) (behind-adds os u (compares_of w p) t)

add-adds : (os : List Opened) (u : Upper) (w : Lower) (p : Primary) (s : Additive) → Adds (λ rest. spell_opened os (spell_upper u (spell_lower w (spell_primary p rest)))) (additive_sign s) (Some (add os u w p s))
add-adds os u (lower r a m ss) p s = λ rest. ap (λ x. spell_opened os (spell_upper u (front_related r x))) (sums-spelled a m ss p (additive_sign s ∷ rest))

scale-adds : (os : List Opened) (u : Upper) (w : Lower) (p : Primary) (s : Multiplicative) → Adds (λ rest. spell_opened os (spell_upper u (spell_lower w (spell_primary p rest)))) (multiplicative_sign s) (Some (scale os u w p s))
scale-adds os u (lower r a m ss) p s = λ rest. ap (λ x. spell_opened os (spell_upper u (front_related r (front_added a x)))) (products-spelled m ss p (multiplicative_sign s ∷ rest))

operator-adds : (os : List Opened) (u : Upper) (w : Lower) (p : Primary) (t : Kind) → Adds (λ rest. spell_opened os (spell_upper u (spell_lower w (spell_primary p rest)))) t (operator os u w p t)
operator-adds os u w p open_parenthesis = λ rest. refl
operator-adds os u w p open_bracket = λ rest. refl
operator-adds os u w p dot = λ rest. refl
operator-adds os u w p plus_sign = add-adds os u w p plus
operator-adds os u w p minus_sign = add-adds os u w p minus
operator-adds os u w p times_sign = scale-adds os u w p times
operator-adds os u w p floor_sign = scale-adds os u w p floor
operator-adds os u w p mod_sign = scale-adds os u w p modulo
operator-adds os u w p t = primary-adds os u w p t

close_parenthesis_at-adds : (os : List Opened) → Adds (spell_opened os) close_parenthesis (close_parenthesis_at os)
close_parenthesis_at-adds (opened u w (in_call f es) ∷ os) = λ rest. ap (λ x. spell_opened os (spell_upper u (spell_lower w (spell_callee f (open_parenthesis ∷ x))))) (args_of-spelled es (close_parenthesis ∷ rest))
close_parenthesis_at-adds (opened u w in_group ∷ os) = λ rest. refl
close_parenthesis_at-adds (listed es ∷ opened u w in_group ∷ os) = λ rest. refl
close_parenthesis_at-adds _ = tt

close_bracket_at-adds : (os : List Opened) → Adds (spell_opened os) close_bracket (close_bracket_at os)
close_bracket_at-adds (opened u w (in_display es) ∷ os) = λ rest. ap (λ x. spell_opened os (spell_upper u (spell_lower w (open_bracket ∷ x)))) (args_of-spelled es (close_bracket ∷ rest))
close_bracket_at-adds (opened u w (in_slice p b) ∷ os) = λ rest. refl
close_bracket_at-adds _ = tt

close_brace_at-adds : (os : List Opened) → Adds (spell_opened os) close_brace (close_brace_at os)
close_brace_at-adds (opened u w (in_dict ps) ∷ os) = λ rest. ap (λ x. spell_opened os (spell_upper u (spell_lower w (open_brace ∷ x)))) (entries_of-spelled ps (close_brace ∷ rest))
close_brace_at-adds _ = tt

colon_at-adds : (os : List Opened) → Adds (spell_opened os) colon (colon_at os)
colon_at-adds (opened u w (in_index p) ∷ os) = λ rest. refl
colon_at-adds _ = tt

if_nothing-adds : (os : List Opened) (u : Upper) (w : Lower) (t : Kind) (r : Option Reading) → Adds (spell_opened os) t r → Adds (λ rest. spell_opened os (spell_upper u (spell_lower w rest))) t (if_nothing u w r)
if_nothing-adds os (upper [] None None None zero) (lower None None None []) t r h = h
if_nothing-adds os _ _ t r h = tt

deny-adds : (os : List Opened) (u : Upper) (w : Lower) → Adds (λ rest. spell_opened os (spell_upper u (spell_lower w rest))) not_word (deny os u w)
deny-adds os (upper ps test o a n) (lower None None None []) = λ rest. refl
deny-adds os _ _ = tt

sign-adds : (os : List Opened) (u : Upper) (w : Lower) (s : Additive) → Adds (λ rest. spell_opened os (spell_upper u (spell_lower w rest))) (additive_sign s) (Some (sign os u w s))
sign-adds os u (lower r a m ss) s = λ rest. refl

operand-adds : (os : List Opened) (u : Upper) (w : Lower) (t : Kind) → Adds (λ rest. spell_opened os (spell_upper u (spell_lower w rest))) t (operand os u w t)
operand-adds os u w (t.Name n) = λ rest. refl
operand-adds os u w (t.Number n) = λ rest. refl
operand-adds os u w (t.Text n) = λ rest. refl
operand-adds os u w none_word = λ rest. refl
operand-adds os u w true_word = λ rest. refl
operand-adds os u w false_word = λ rest. refl
operand-adds os u w not_word = deny-adds os u w
operand-adds os u w plus_sign = sign-adds os u w plus
operand-adds os u w minus_sign = sign-adds os u w minus
operand-adds os u w open_parenthesis = λ rest. refl
operand-adds os u w open_bracket = λ rest. refl
operand-adds os u w open_brace = λ rest. refl
operand-adds os u w close_parenthesis = if_nothing-adds os u w close_parenthesis (close_parenthesis_at os) (close_parenthesis_at-adds os)
operand-adds os u w close_bracket = if_nothing-adds os u w close_bracket (close_bracket_at os) (close_bracket_at-adds os)
operand-adds os u w close_brace = if_nothing-adds os u w close_brace (close_brace_at os) (close_brace_at-adds os)
operand-adds os u w colon = if_nothing-adds os u w colon (colon_at os) (colon_at-adds os)
operand-adds os u w _ = tt

is_what-adds : (os : List Opened) (u : Upper) (c : Compares) (t : Kind) → Adds (spell_reading (after_is os u c)) t (is_what os u c t)
is_what-adds os u c none_word = λ rest. refl
is_what-adds os u c not_word = λ rest. refl
is_what-adds os u c _ = tt

is_not_what-adds : (os : List Opened) (u : Upper) (c : Compares) (t : Kind) → Adds (spell_reading (after_is_not os u c)) t (is_not_what os u c t)
is_not_what-adds os u c none_word = λ rest. refl
is_not_what-adds os u c _ = tt

not_what-adds : (os : List Opened) (u : Upper) (c : Compares) (t : Kind) → Adds (spell_reading (after_not os u c)) t (not_what os u c t)
not_what-adds os u c in_word = λ rest. refl
not_what-adds os u c _ = tt

dot_what-adds : (os : List Opened) (u : Upper) (w : Lower) (p : Primary) (k : Kind) → Adds (spell_reading (after_dot os u w p)) k (dot_what os u w p k)
dot_what-adds os u w p (t.Name n) = λ rest. refl
dot_what-adds os u w p _ = tt

method_what-adds : (os : List Opened) (u : Upper) (w : Lower) (p : Primary) (n : List ℕ) (t : Kind) → Adds (spell_reading (after_method os u w p n)) t (method_what os u w p n t)
method_what-adds os u w p n open_parenthesis = λ rest. refl
method_what-adds os u w p n _ = tt

-- one more token is one more in the spelling
pub read-adds : (r : Reading) (t : Kind) → Adds (spell_reading r) t (read r t)
read-adds (wants os u w) t = operand-adds os u w t
read-adds (has os u w p) t = operator-adds os u w p t
read-adds (has_none os u c) t = behind-adds os u (compares_none c) t
read-adds (has_not_none os u c) t = behind-adds os u (compares_not_none c) t
read-adds (after_is os u c) t = is_what-adds os u c t
read-adds (after_is_not os u c) t = is_not_what-adds os u c t
read-adds (after_not os u c) t = not_what-adds os u c t
read-adds (after_dot os u w p) t = dot_what-adds os u w p t
read-adds (after_method os u w p n) t = method_what-adds os u w p n t

-- ---- what may end

abbrev pub SpellsAll : Option Exprs → (List Kind → List Kind) → Type 0
SpellsAll None f = Unit {0}
SpellsAll (Some a) f = (rest : List Kind) → spell_exprs a rest ≡ f rest

exprs_after-spelled : (os : List Opened) (a : Option Expression) (f : List Kind → List Kind) → Spells a f → SpellsAll (exprs_after os a) (λ rest. spell_opened os (f rest))
exprs_after-spelled [] (Some a) f h = h
exprs_after-spelled (listed es ∷ []) (Some a) f h = λ rest. ap (λ x. spell_elements es (comma ∷ x)) (h rest)
exprs_after-spelled _ _ f h = tt

exprs_at-spelled : (os : List Opened) → SpellsAll (exprs_at os) (spell_opened os)
exprs_at-spelled (listed es ∷ []) = λ rest. refl
exprs_at-spelled _ = tt

begun-spelled : (os : List Opened) (u : Upper) (w : Lower) (a : Option Exprs) → SpellsAll a (spell_opened os) → SpellsAll (if_begun u w a) (λ rest. spell_opened os (spell_upper u (spell_lower w rest)))
begun-spelled os (upper [] None None None zero) (lower None None None []) a h = h
begun-spelled os _ _ a h = tt

spells_same : (a : Option Expression) (f g : List Kind → List Kind) → ((rest : List Kind) → f rest ≡ g rest) → Spells a f → Spells a g
spells_same None f g e h = tt
spells_same (Some a) f g e h = λ rest. h rest ∙ e rest

-- what may end spells what has been read
pub whole-spelled : (r : Reading) → SpellsAll (whole r) (spell_reading r)
whole-spelled (wants os u w) = begun-spelled os u w (exprs_at os) (exprs_at-spelled os)
whole-spelled (has os u w p) = exprs_after-spelled os (expression_of u (compares_of w p)) _ (spells_same (expression_of u (compares_of w p)) _ _ (λ rest. ap (spell_upper u) (compares_of-spelled w p rest)) (expression_of-spelled u (compares_of w p)))
whole-spelled (has_none os u c) = exprs_after-spelled os (expression_of u (compares_none c)) _ (expression_of-spelled u (compares_none c))
whole-spelled (has_not_none os u c) = exprs_after-spelled os (expression_of u (compares_not_none c)) _ (expression_of-spelled u (compares_not_none c))
whole-spelled _ = tt
