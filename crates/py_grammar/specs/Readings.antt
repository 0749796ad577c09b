-- Reading an expression: what has been read, as forms that are still open, and what one more token makes of it.
use Rattle.std.specs.Prelude.{ℕ, zero, suc, Bool, true, false, IsTrue, List, [], ◌∷◌, Option, Some, None, ◌&&◌}
use Rattle.py_token.specs.declared.kinds.Kind.{Kind}
use Rattle.py_token.specs.declared.kinds.Kind.TheVariants as t
use Rattle.py_grammar.specs.Words.{and_word, or_word, not_word, if_word, else_word, in_word, is_word, none_word, true_word, false_word, equal_sign, not_equal_sign, at_most_sign, at_least_sign, floor_sign, plus_sign, minus_sign, times_sign, mod_sign, less_sign, more_sign, open_parenthesis, close_parenthesis, open_bracket, close_bracket, open_brace, close_brace, colon, comma, dot}
use Rattle.py_grammar.specs.Expressions.{Expression, plain, conditional, Ors, ors_one, ors_more, Ands, ands_one, ands_more, Negation, compared, negated, Compares, compares_one, compares_more, compares_none, compares_not_none, Relational, equal, not_equal, less, at_most, greater, at_least, within, not_within, Sums, sums_one, sums_more, Additive, plus, minus, Products, products_one, products_more, Multiplicative, times, floor, modulo, Signed, unsigned, signed, Primary, name, number, text, nothing, truth, falsity, empty, group, display, dict, call, index, slice, Exprs, single, tuple, tuple_comma, Callee, function, method, Bound, unbounded, bounded, Args, no_args, args, args_comma, Elements, elements_one, elements_more, Entries, no_entries, entries, entries_comma, Pairs, pairs_one, pairs_more}

-- ---- an expression up to where an operand is to come

-- `a if b else`, when what is after it is to come
pub data Picked : Type 0 where
  picked : Ors → Ors → Picked

-- the choices so far, the innermost first; `a if` while its test is read; what is before `or` and `and`; `not`s
pub data Upper : Type 0 where
  upper : List Picked → Option Ors → Option Ors → Option Ands → ℕ → Upper

-- what is before a relation
pub data Related : Type 0 where
  related : Compares → Relational → Related

-- what is before a sign of a sum
pub data Added : Type 0 where
  added : Sums → Additive → Added

-- what is before a sign of a product
pub data Scaled : Type 0 where
  scaled : Products → Multiplicative → Scaled

-- what is before a relation, a sum's sign and a product's, and the signs of the operand, the innermost first
pub data Lower : Type 0 where
  lower : Option Related → Option Added → Option Scaled → List Additive → Lower

abbrev pub no_upper : Upper
no_upper = upper [] None None None zero

abbrev pub no_lower : Lower
no_lower = lower None None None []

-- ---- open brackets

-- an open bracket, and what is directly before it and in it
pub data Bracket : Type 0 where
  in_group : Bracket
  in_display : Option Elements → Bracket
  in_dict : Option Pairs → Bracket
  in_pair : Option Pairs → Expression → Bracket
  in_call : Callee → Option Elements → Bracket
  in_index : Primary → Bracket
  in_slice : Primary → Bound → Bracket

-- what is open: a bracket, or the elements of a tuple so far, which are directly in parentheses or in no bracket
pub data Opened : Type 0 where
  opened : Upper → Lower → Bracket → Opened
  listed : Elements → Opened

-- what has been read of an expression
pub data Reading : Type 0 where
  wants : List Opened → Upper → Lower → Reading
  has : List Opened → Upper → Lower → Primary → Reading
  has_none : List Opened → Upper → Compares → Reading
  has_not_none : List Opened → Upper → Compares → Reading
  after_is : List Opened → Upper → Compares → Reading
  after_is_not : List Opened → Upper → Compares → Reading
  after_not : List Opened → Upper → Compares → Reading
  after_dot : List Opened → Upper → Lower → Primary → Reading
  after_method : List Opened → Upper → Lower → Primary → List ℕ → Reading

abbrev pub begun : Reading
begun = wants [] no_upper no_lower

-- ---- what an operand closes

abbrev pub add_signs : List Additive → Signed → Signed
add_signs [] a = a
add_signs (s ∷ signs) a = add_signs signs (signed s a)

abbrev pub add_scaled : Option Scaled → Signed → Products
add_scaled None a = products_one a
add_scaled (Some (scaled b s)) a = products_more b s a

abbrev pub add_added : Option Added → Products → Sums
add_added None a = sums_one a
add_added (Some (added b s)) a = sums_more b s a

abbrev pub add_related : Option Related → Sums → Compares
add_related None a = compares_one a
add_related (Some (related b r)) a = compares_more b r a

abbrev pub add_nots : ℕ → Negation → Negation
add_nots zero a = a
add_nots (suc n) a = add_nots n (negated a)

abbrev pub add_and : Option Ands → Negation → Ands
add_and None a = ands_one a
add_and (Some b) a = ands_more b a

abbrev pub add_or : Option Ors → Ands → Ors
add_or None a = ors_one a
add_or (Some b) a = ors_more b a

abbrev pub add_picked : List Picked → Expression → Expression
add_picked [] a = a
add_picked (picked b test ∷ ps) a = add_picked ps (conditional b test a)

abbrev pub add_element : Option Elements → Expression → Elements
add_element None a = elements_one a
add_element (Some es) a = elements_more es a

abbrev pub add_pair : Option Pairs → Expression → Expression → Pairs
add_pair None a b = pairs_one a b
add_pair (Some ps) a b = pairs_more ps a b

abbrev pub args_of : Option Elements → Args
args_of None = no_args
args_of (Some es) = args_comma es

abbrev pub entries_of : Option Pairs → Entries
entries_of None = no_entries
entries_of (Some ps) = entries_comma ps

abbrev pub compares_of : Lower → Primary → Compares
compares_of (lower r a m signs) p = add_related r (add_added a (add_scaled m (add_signs signs (unsigned p))))

-- the whole expression, if no `if` waits for its `else`
abbrev pub expression_of : Upper → Compares → Option Expression
expression_of (upper ps None o a n) c = Some (add_picked ps (plain (add_or o (add_and a (add_nots n (compared c))))))
expression_of (upper ps (Some b) o a n) c = None

-- ---- one more token after a whole expression

abbrev pub close_parenthesis_after : List Opened → Option Expression → Option Reading
close_parenthesis_after (opened u w in_group ∷ os) (Some a) = Some (has os u w (group (single a)))
close_parenthesis_after (listed es ∷ opened u w in_group ∷ os) (Some a) = Some (has os u w (group (tuple es a)))
close_parenthesis_after (opened u w (in_call f es) ∷ os) (Some a) = Some (has os u w (call f (args (add_element es a))))
close_parenthesis_after _ _ = None

abbrev pub close_bracket_after : List Opened → Option Expression → Option Reading
close_bracket_after (opened u w (in_display es) ∷ os) (Some a) = Some (has os u w (display (args (add_element es a))))
close_bracket_after (opened u w (in_index p) ∷ os) (Some a) = Some (has os u w (index p a))
close_bracket_after (opened u w (in_slice p b) ∷ os) (Some a) = Some (has os u w (slice p b (bounded a)))
close_bracket_after _ _ = None

abbrev pub close_brace_after : List Opened → Option Expression → Option Reading
close_brace_after (opened u w (in_pair ps b) ∷ os) (Some a) = Some (has os u w (dict (entries (add_pair ps b a))))
close_brace_after _ _ = None

abbrev pub comma_after : List Opened → Option Expression → Option Reading
comma_after (opened u w (in_display es) ∷ os) (Some a) = Some (wants (opened u w (in_display (Some (add_element es a))) ∷ os) no_upper no_lower)
comma_after (opened u w (in_call f es) ∷ os) (Some a) = Some (wants (opened u w (in_call f (Some (add_element es a))) ∷ os) no_upper no_lower)
comma_after (opened u w (in_pair ps b) ∷ os) (Some a) = Some (wants (opened u w (in_dict (Some (add_pair ps b a))) ∷ os) no_upper no_lower)
comma_after (opened u w in_group ∷ os) (Some a) = Some (wants (listed (elements_one a) ∷ opened u w in_group ∷ os) no_upper no_lower)
comma_after (listed es ∷ os) (Some a) = Some (wants (listed (elements_more es a) ∷ os) no_upper no_lower)
comma_after [] (Some a) = Some (wants (listed (elements_one a) ∷ []) no_upper no_lower)
comma_after _ _ = None

abbrev pub colon_after : List Opened → Option Expression → Option Reading
colon_after (opened u w (in_dict ps) ∷ os) (Some a) = Some (wants (opened u w (in_pair ps a) ∷ os) no_upper no_lower)
colon_after (opened u w (in_index p) ∷ os) (Some a) = Some (wants (opened u w (in_slice p (bounded a)) ∷ os) no_upper no_lower)
colon_after _ _ = None

abbrev pub if_after : List Opened → Upper → Compares → Option Reading
if_after os (upper ps None o a n) c = Some (wants os (upper ps (Some (add_or o (add_and a (add_nots n (compared c))))) None None zero) no_lower)
if_after os (upper ps (Some b) o a n) c = None

abbrev pub else_after : List Opened → Upper → Compares → Option Reading
else_after os (upper ps (Some b) o a n) c = Some (wants os (upper (picked b (add_or o (add_and a (add_nots n (compared c)))) ∷ ps) None None None zero) no_lower)
else_after os (upper ps None o a n) c = None

abbrev pub or_after : List Opened → Upper → Compares → Reading
or_after os (upper ps test o a n) c = wants os (upper ps test (Some (add_or o (add_and a (add_nots n (compared c))))) None zero) no_lower

abbrev pub and_after : List Opened → Upper → Compares → Reading
and_after os (upper ps test o a n) c = wants os (upper ps test o (Some (add_and a (add_nots n (compared c)))) zero) no_lower

abbrev pub relate : List Opened → Upper → Compares → Relational → Reading
relate os u c r = wants os u (lower (Some (related c r)) None None [])

-- after a whole comparison
abbrev pub behind : List Opened → Upper → Compares → Kind → Option Reading
behind os u c equal_sign = Some (relate os u c equal)
behind os u c not_equal_sign = Some (relate os u c not_equal)
behind os u c less_sign = Some (relate os u c less)
behind os u c at_most_sign = Some (relate os u c at_most)
behind os u c more_sign = Some (relate os u c greater)
behind os u c at_least_sign = Some (relate os u c at_least)
behind os u c in_word = Some (relate os u c within)
behind os u c not_word = Some (after_not os u c)
behind os u c is_word = Some (after_is os u c)
behind os u c and_word = Some (and_after os u c)
behind os u c or_word = Some (or_after os u c)
behind os u c if_word = if_after os u c
behind os u c else_word = else_after os u c
behind os u c close_parenthesis = close_parenthesis_after os (expression_of u c)
behind os u c close_bracket = close_bracket_after os (expression_of u c)
behind os u c close_brace = close_brace_after os (expression_of u c)
behind os u c comma = comma_after os (expression_of u c)
behind os u c colon = colon_after os (expression_of u c)
behind os u c _ = None

-- ---- one more token after a primary

abbrev pub add : List Opened → Upper → Lower → Primary → Additive → Reading
add os u (lower r a m signs) p s = wants os u (lower r (Some (added (add_added a (add_scaled m (add_signs signs (unsigned p)))) s)) None [])

abbrev pub scale : List Opened → Upper → Lower → Primary → Multiplicative → Reading
scale os u (lower r a m signs) p s = wants os u (lower r a (Some (scaled (add_scaled m (add_signs signs (unsigned p))) s)) [])

abbrev pub operator : List Opened → Upper → Lower → Primary → Kind → Option Reading
operator os u w p open_parenthesis = Some (wants (opened u w (in_call (function p) None) ∷ os) no_upper no_lower)
operator os u w p open_bracket = Some (wants (opened u w (in_index p) ∷ os) no_upper no_lower)
operator os u w p dot = Some (after_dot os u w p)
operator os u w p plus_sign = Some (add os u w p plus)
operator os u w p minus_sign = Some (add os u w p minus)
operator os u w p times_sign = Some (scale os u w p times)
operator os u w p floor_sign = Some (scale os u w p floor)
operator os u w p mod_sign = Some (scale os u w p modulo)
operator os u w p t = behind os u (compares_of w p) t

-- ---- one more token when an operand is to come

-- when nothing of the expression has been read, a bracket ends without it
abbrev pub close_parenthesis_at : List Opened → Option Reading
close_parenthesis_at (opened u w (in_call f es) ∷ os) = Some (has os u w (call f (args_of es)))
close_parenthesis_at (opened u w in_group ∷ os) = Some (has os u w empty)
close_parenthesis_at (listed es ∷ opened u w in_group ∷ os) = Some (has os u w (group (tuple_comma es)))
close_parenthesis_at _ = None

abbrev pub close_bracket_at : List Opened → Option Reading
close_bracket_at (opened u w (in_display es) ∷ os) = Some (has os u w (display (args_of es)))
close_bracket_at (opened u w (in_slice p b) ∷ os) = Some (has os u w (slice p b unbounded))
close_bracket_at _ = None

abbrev pub close_brace_at : List Opened → Option Reading
close_brace_at (opened u w (in_dict ps) ∷ os) = Some (has os u w (dict (entries_of ps)))
close_brace_at _ = None

abbrev pub colon_at : List Opened → Option Reading
colon_at (opened u w (in_index p) ∷ os) = Some (wants (opened u w (in_slice p unbounded) ∷ os) no_upper no_lower)
colon_at _ = None

abbrev pub if_nothing : Upper → Lower → Option Reading → Option Reading
if_nothing (upper [] None None None zero) (lower None None None []) r = r
if_nothing _ _ r = None

-- a `not` where a comparison may begin
abbrev pub deny : List Opened → Upper → Lower → Option Reading
deny os (upper ps test o a n) (lower None None None []) = Some (wants os (upper ps test o a (suc n)) no_lower)
deny os _ _ = None

abbrev pub sign : List Opened → Upper → Lower → Additive → Reading
sign os u (lower r a m signs) s = wants os u (lower r a m (s ∷ signs))

abbrev pub operand : List Opened → Upper → Lower → Kind → Option Reading
operand os u w (t.Name n) = Some (has os u w (name n))
operand os u w (t.Number n) = Some (has os u w (number n))
operand os u w (t.Text n) = Some (has os u w (text n))
operand os u w none_word = Some (has os u w nothing)
operand os u w true_word = Some (has os u w truth)
operand os u w false_word = Some (has os u w falsity)
operand os u w not_word = deny os u w
operand os u w plus_sign = Some (sign os u w plus)
operand os u w minus_sign = Some (sign os u w minus)
operand os u w open_parenthesis = Some (wants (opened u w in_group ∷ os) no_upper no_lower)
operand os u w open_bracket = Some (wants (opened u w (in_display None) ∷ os) no_upper no_lower)
operand os u w open_brace = Some (wants (opened u w (in_dict None) ∷ os) no_upper no_lower)
operand os u w close_parenthesis = if_nothing u w (close_parenthesis_at os)
operand os u w close_bracket = if_nothing u w (close_bracket_at os)
operand os u w close_brace = if_nothing u w (close_brace_at os)
operand os u w colon = if_nothing u w (colon_at os)
operand os u w _ = None

-- ---- the other states

abbrev pub is_what : List Opened → Upper → Compares → Kind → Option Reading
is_what os u c none_word = Some (has_none os u c)
is_what os u c not_word = Some (after_is_not os u c)
is_what os u c _ = None

abbrev pub is_not_what : List Opened → Upper → Compares → Kind → Option Reading
is_not_what os u c none_word = Some (has_not_none os u c)
is_not_what os u c _ = None

abbrev pub not_what : List Opened → Upper → Compares → Kind → Option Reading
not_what os u c in_word = Some (relate os u c not_within)
not_what os u c _ = None

abbrev pub dot_what : List Opened → Upper → Lower → Primary → Kind → Option Reading
dot_what os u w p (t.Name n) = Some (after_method os u w p n)
dot_what os u w p _ = None

abbrev pub method_what : List Opened → Upper → Lower → Primary → List ℕ → Kind → Option Reading
method_what os u w p n open_parenthesis = Some (wants (opened u w (in_call (method p n) None) ∷ os) no_upper no_lower)
method_what os u w p n _ = None

-- one more token of an expression
abbrev pub read : Reading → Kind → Option Reading
read (wants os u w) t = operand os u w t
read (has os u w p) t = operator os u w p t
read (has_none os u c) t = behind os u (compares_none c) t
read (has_not_none os u c) t = behind os u (compares_not_none c) t
read (after_is os u c) t = is_what os u c t
read (after_is_not os u c) t = is_not_what os u c t
read (after_not os u c) t = not_what os u c t
read (after_dot os u w p) t = dot_what os u w p t
read (after_method os u w p n) t = method_what os u w p n t

-- ---- where an expression ends outside all brackets

abbrev pub exprs_after : List Opened → Option Expression → Option Exprs
exprs_after [] (Some a) = Some (single a)
exprs_after (listed es ∷ []) (Some a) = Some (tuple es a)
exprs_after _ _ = None

abbrev pub exprs_at : List Opened → Option Exprs
exprs_at (listed es ∷ []) = Some (tuple_comma es)
exprs_at _ = None

abbrev pub if_begun : Upper → Lower → Option Exprs → Option Exprs
if_begun (upper [] None None None zero) (lower None None None []) a = a
if_begun _ _ a = None

-- the whole, if it may end
abbrev pub whole : Reading → Option Exprs
whole (wants os u w) = if_begun u w (exprs_at os)
whole (has os u w p) = exprs_after os (expression_of u (compares_of w p))
whole (has_none os u c) = exprs_after os (expression_of u (compares_none c))
whole (has_not_none os u c) = exprs_after os (expression_of u (compares_not_none c))
whole _ = None

-- ---- a primary alone, and an expression alone

abbrev pub is_none : {A : Type 0} → Option A → Bool
is_none None = true
is_none (Some a) = false

abbrev pub is_empty : {A : Type 0} → List A → Bool
is_empty [] = true
is_empty (a ∷ others) = false

abbrev pub is_zero : ℕ → Bool
is_zero zero = true
is_zero (suc n) = false

abbrev pub no_upper_part : Upper → Bool
no_upper_part (upper ps test o a n) = is_zero n && (is_none a && (is_none o && (is_none test && is_empty ps)))

abbrev pub no_lower_part : Lower → Bool
no_lower_part (lower r a m signs) = is_empty signs && (is_none m && (is_none a && is_none r))

-- nothing is before the operand
abbrev pub bare : Upper → Lower → Bool
bare u w = no_lower_part w && no_upper_part u

-- nothing is before what is outside all brackets
abbrev pub bare_below : List Opened → Bool → Bool
bare_below [] b = b
bare_below (opened u w k ∷ os) b = bare_below os (bare u w)
bare_below (listed es ∷ os) b = bare_below os false

-- what has been read begins a primary and nothing wider
abbrev pub narrow : Reading → Bool
narrow (wants os u w) = bare_below os (bare u w)
narrow (has os u w p) = bare_below os (bare u w)
narrow (has_none os u c) = bare_below os false
narrow (has_not_none os u c) = bare_below os false
narrow (after_is os u c) = bare_below os false
narrow (after_is_not os u c) = bare_below os false
narrow (after_not os u c) = bare_below os false
narrow (after_dot os u w p) = bare_below os (bare u w)
narrow (after_method os u w p n) = bare_below os (bare u w)

-- what is open of it
abbrev pub open_in : Reading → List Opened
open_in (wants os u w) = os
open_in (has os u w p) = os
open_in (has_none os u c) = os
open_in (has_not_none os u c) = os
open_in (after_is os u c) = os
open_in (after_is_not os u c) = os
open_in (after_not os u c) = os
open_in (after_dot os u w p) = os
open_in (after_method os u w p n) = os

-- no tuple is outside all brackets
abbrev pub one_below : List Opened → Bool
one_below [] = true
one_below (opened u w k ∷ os) = one_below os
one_below (listed es ∷ []) = false
one_below (listed es ∷ o ∷ os) = one_below (o ∷ os)

-- what has been read begins an expression, and no tuple without parentheses
abbrev pub undivided : Reading → Bool
undivided r = one_below (open_in r)

-- ---- where the elements of a tuple are

abbrev pub directly : List Opened → Bool
directly [] = true
directly (opened u w in_group ∷ os) = true
directly _ = false

-- directly in parentheses or in no bracket
abbrev pub lists_stand : List Opened → Type 0
lists_stand [] = Unit {0}
lists_stand (opened u w k ∷ os) = lists_stand os
lists_stand (listed es ∷ os) = IsTrue (directly os) × lists_stand os

abbrev pub reading_stands : Reading → Type 0
reading_stands r = lists_stand (open_in r)
