-- The elements of a tuple are directly in parentheses or in no bracket, whatever is read.
use Rattle.std.proofs.Common.{ℕ, zero, List, [], ◌∷◌, Option, Some, None, refl}
use Rattle.py_token.specs.declared.kinds.Kind.{Kind}
use Rattle.py_token.specs.declared.kinds.Kind.TheVariants as t
use Rattle.py_grammar.specs.Words.{and_word, or_word, not_word, if_word, else_word, in_word, is_word, none_word, true_word, false_word, equal_sign, not_equal_sign, at_most_sign, at_least_sign, floor_sign, plus_sign, minus_sign, times_sign, mod_sign, less_sign, more_sign, open_parenthesis, close_parenthesis, open_bracket, close_bracket, open_brace, close_brace, colon, comma, dot}
use Rattle.py_grammar.specs.Expressions.{Expression, Compares, compares_none, compares_not_none, Additive, plus, minus, Multiplicative, times, floor, modulo, Primary}
use Rattle.py_grammar.specs.Readings.{Upper, upper, Lower, lower, in_group, in_display, in_dict, in_pair, in_call, in_index, in_slice, Opened, opened, listed, Reading, wants, has, has_none, has_not_none, after_is, after_is_not, after_not, after_dot, after_method, compares_of, expression_of, close_parenthesis_after, close_bracket_after, close_brace_after, comma_after, colon_after, if_after, else_after, or_after, and_after, behind, add, scale, operator, close_parenthesis_at, close_bracket_at, close_brace_at, colon_at, if_nothing, deny, sign, operand, is_what, is_not_what, not_what, dot_what, method_what, read, lists_stand, reading_stands}

abbrev pub KeepsLists : Option Reading → Type 0
KeepsLists None = Unit {0}
KeepsLists (Some r) = reading_stands r

parenthesis-keeps : (os : List Opened) (a : Option Expression) → lists_stand os → KeepsLists (close_parenthesis_after os a)
parenthesis-keeps (opened u w in_group ∷ os) (Some a) k = k
parenthesis-keeps (listed es ∷ opened u w in_group ∷ os) (Some a) k = k.1
parenthesis-keeps (opened u w (in_call f es) ∷ os) (Some a) k = k
parenthesis-keeps _ _ k = tt

bracket-keeps : (os : List Opened) (a : Option Expression) → lists_stand os → KeepsLists (close_bracket_after os a)
bracket-keeps (opened u w (in_display es) ∷ os) (Some a) k = k
bracket-keeps (opened u w (in_index p) ∷ os) (Some a) k = k
bracket-keeps (opened u w (in_slice p b) ∷ os) (Some a) k = k
bracket-keeps _ _ k = tt

brace-keeps : (os : List Opened) (a : Option Expression) → lists_stand os → KeepsLists (close_brace_after os a)
brace-keeps (opened u w (in_pair ps b) ∷ os) (Some a) k = k
brace-keeps _ _ k = tt

comma-keeps : (os : List Opened) (a : Option Expression) → lists_stand os → KeepsLists (comma_after os a)
comma-keeps (opened u w (in_display es) ∷ os) (Some a) k = k
comma-keeps (opened u w (in_call f es) ∷ os) (Some a) k = k
comma-keeps (opened u w (in_pair ps b) ∷ os) (Some a) k = k
comma-keeps (opened u w in_group ∷ os) (Some a) k = (refl, k)
comma-keeps (listed es ∷ os) (Some a) k = k
comma-keeps [] (Some a) k = (refl, tt)
comma-keeps _ _ k = tt

colon-keeps : (os : List Opened) (a : Option Expression) → lists_stand os → KeepsLists (colon_after os a)
colon-keeps (opened u w (in_dict ps) ∷ os) (Some a) k = k
colon-keeps (opened u w (in_index p) ∷ os) (Some a) k = k
colon-keeps _ _ k = tt

if-keeps : (os : List Opened) (u : Upper) (c : Compares) → lists_stand os → KeepsLists (if_after os u c)
if-keeps os (upper ps None o a n) c k = k
if-keeps os (upper ps (Some b) o a n) c k = tt

else-keeps : (os : List Opened) (u : Upper) (c : Compares) → lists_stand os → KeepsLists (else_after os u c)
else-keeps os (upper ps None o a n) c k = tt
else-keeps os (upper ps (Some b) o a n) c k = k

or-keeps : (os : List Opened) (u : Upper) (c : Compares) → lists_stand os → KeepsLists (Some (or_after os u c))
or-keeps os (upper ps test o a n) c k = k

and-keeps : (os : List Opened) (u : Upper) (c : Compares) → lists_stand os → KeepsLists (Some (and_after os u c))
and-keeps os (upper ps test o a n) c k = k

behind-keeps : (os : List Opened) (u : Upper) (c : Compares) (t : Kind) → lists_stand os → KeepsLists (behind os u c t)
behind-keeps os u c equal_sign k = k
behind-keeps os u c not_equal_sign k = k
behind-keeps os u c less_sign k = k
behind-keeps os u c at_most_sign k = k
behind-keeps os u c more_sign k = k
behind-keeps os u c at_least_sign k = k
behind-keeps os u c in_word k = k
behind-keeps os u c not_word k = k
behind-keeps os u c is_word k = k
behind-keeps os u c and_word k = and-keeps os u c k
behind-keeps os u c or_word k = or-keeps os u c k
behind-keeps os u c if_word k = if-keeps os u c k
behind-keeps os u c else_word k = else-keeps os u c k
behind-keeps os u c close_parenthesis k = parenthesis-keeps os (expression_of u c) k
behind-keeps os u c close_bracket k = bracket-keeps os (expression_of u c) k
behind-keeps os u c close_brace k = brace-keeps os (expression_of u c) k
behind-keeps os u c comma k = comma-keeps os (expression_of u c) k
behind-keeps os u c colon k = colon-keeps os (expression_of u c) k
behind-keeps os u c _ k = tt

add-keeps : (os : List Opened) (u : Upper) (w : Lower) (p : Primary) (s : Additive) → lists_stand os → KeepsLists (Some (add os u w p s))
add-keeps os u (lower r a m ss) p s k = k

scale-keeps : (os : List Opened) (u : Upper) (w : Lower) (p : Primary) (s : Multiplicative) → lists_stand os → KeepsLists (Some (scale os u w p s))
scale-keeps os u (lower r a m ss) p s k = k

operator-keeps : (os : List Opened) (u : Upper) (w : Lower) (p : Primary) (t : Kind) → lists_stand os → KeepsLists (operator os u w p t)
operator-keeps os u w p open_parenthesis k = k
operator-keeps os u w p open_bracket k = k
operator-keeps os u w p dot k = k
operator-keeps os u w p plus_sign k = add-keeps os u w p plus k
operator-keeps os u w p minus_sign k = add-keeps os u w p minus k
operator-keeps os u w p times_sign k = scale-keeps os u w p times k
operator-keeps os u w p floor_sign k = scale-keeps os u w p floor k
operator-keeps os u w p mod_sign k = scale-keeps os u w p modulo k
operator-keeps os u w p t k = behind-keeps os u (compares_of w p) t k

parenthesis_at-keeps : (os : List Opened) → lists_stand os → KeepsLists (close_parenthesis_at os)
parenthesis_at-keeps (opened u w (in_call f es) ∷ os) k = k
parenthesis_at-keeps (opened u w in_group ∷ os) k = k
parenthesis_at-keeps (listed es ∷ opened u w in_group ∷ os) k = k.1
parenthesis_at-keeps _ k = tt

bracket_at-keeps : (os : List Opened) → lists_stand os → KeepsLists (close_bracket_at os)
bracket_at-keeps (opened u w (in_display es) ∷ os) k = k
bracket_at-keeps (opened u w (in_slice p b) ∷ os) k = k
bracket_at-keeps _ k = tt

brace_at-keeps : (os : List Opened) → lists_stand os → KeepsLists (close_brace_at os)
brace_at-keeps (opened u w (in_dict ps) ∷ os) k = k
brace_at-keeps _ k = tt

colon_at-keeps : (os : List Opened) → lists_stand os → KeepsLists (colon_at os)
colon_at-keeps (opened u w (in_index p) ∷ os) k = k
colon_at-keeps _ k = tt

nothing-keeps : (u : Upper) (w : Lower) (r : Option Reading) → KeepsLists r → KeepsLists (if_nothing u w r)
nothing-keeps (upper [] None None None zero) (lower None None None []) r k = k
nothing-keeps _ _ r k = tt

deny-keeps : (os : List Opened) (u : Upper) (w : Lower) → lists_stand os → KeepsLists (deny os u w)
deny-keeps os (upper ps test o a n) (lower None None None []) k = k
deny-keeps os _ _ k = tt

sign-keeps : (os : List Opened) (u : Upper) (w : Lower) (s : Additive) → lists_stand os → KeepsLists (Some (sign os u w s))
sign-keeps os u (lower r a m ss) s k = k

operand-keeps : (os : List Opened) (u : Upper) (w : Lower) (t : Kind) → lists_stand os → KeepsLists (operand os u w t)
operand-keeps os u w (t.Name n) k = k
operand-keeps os u w (t.Number n) k = k
operand-keeps os u w (t.Text n) k = k
operand-keeps os u w none_word k = k
operand-keeps os u w true_word k = k
operand-keeps os u w false_word k = k
operand-keeps os u w not_word k = deny-keeps os u w k
operand-keeps os u w plus_sign k = sign-keeps os u w plus k
operand-keeps os u w minus_sign k = sign-keeps os u w minus k
operand-keeps os u w open_parenthesis k = k
operand-keeps os u w open_bracket k = k
operand-keeps os u w open_brace k = k
operand-keeps os u w close_parenthesis k = nothing-keeps u w (close_parenthesis_at os) (parenthesis_at-keeps os k)
operand-keeps os u w close_bracket k = nothing-keeps u w (close_bracket_at os) (bracket_at-keeps os k)
operand-keeps os u w close_brace k = nothing-keeps u w (close_brace_at os) (brace_at-keeps os k)
operand-keeps os u w colon k = nothing-keeps u w (colon_at os) (colon_at-keeps os k)
operand-keeps os u w _ k = tt

is-keeps : (os : List Opened) (u : Upper) (c : Compares) (t : Kind) → lists_stand os → KeepsLists (is_what os u c t)
is-keeps os u c none_word k = k
is-keeps os u c not_word k = k
is-keeps os u c _ k = tt

is_not-keeps : (os : List Opened) (u : Upper) (c : Compares) (t : Kind) → lists_stand os → KeepsLists (is_not_what os u c t)
is_not-keeps os u c none_word k = k
is_not-keeps os u c _ k = tt

not-keeps : (os : List Opened) (u : Upper) (c : Compares) (t : Kind) → lists_stand os → KeepsLists (not_what os u c t)
not-keeps os u c in_word k = k
not-keeps os u c _ k = tt

dot-keeps : (os : List Opened) (u : Upper) (w : Lower) (p : Primary) (t : Kind) → lists_stand os → KeepsLists (dot_what os u w p t)
dot-keeps os u w p (t.Name n) k = k
dot-keeps os u w p _ k = tt

method-keeps : (os : List Opened) (u : Upper) (w : Lower) (p : Primary) (n : List ℕ) (t : Kind) → lists_stand os → KeepsLists (method_what os u w p n t)
method-keeps os u w p n open_parenthesis k = k
method-keeps os u w p n _ k = tt

pub read-keeps : (r : Reading) (t : Kind) → reading_stands r → KeepsLists (read r t)
read-keeps (wants os u w) t k = operand-keeps os u w t k
read-keeps (has os u w p) t k = operator-keeps os u w p t k
read-keeps (has_none os u c) t k = behind-keeps os u (compares_none c) t k
read-keeps (has_not_none os u c) t k = behind-keeps os u (compares_not_none c) t k
read-keeps (after_is os u c) t k = is-keeps os u c t k
read-keeps (after_is_not os u c) t k = is_not-keeps os u c t k
read-keeps (after_not os u c) t k = not-keeps os u c t k
read-keeps (after_dot os u w p) t k = dot-keeps os u w p t k
read-keeps (after_method os u w p n) t k = method-keeps os u w p n t k
