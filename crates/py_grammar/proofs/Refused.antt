-- A token that begins a construct outside the grammar is refused.
use Rattle.std.proofs.Common.{◌≡◌, ℕ, false, if◌then◌else◌, List, ◌∷◌, Option, Some, None, refl, ap, ◌∙◌}
use Rattle.py_token.specs.declared.kinds.Kind.{Kind}
use Rattle.py_token.specs.declared.kinds.Kind.TheVariants as t
use Rattle.py_grammar.specs.declared.constructs.Construct.{Construct}
use Rattle.py_grammar.specs.Words.{not_word, for_word, none_word, def_word, as_word, assert_word, async_word, await_word, class_word, except_word, finally_word, from_word, import_word, lambda_word, nonlocal_word, raise_word, try_word, with_word, yield_word, floor_assign_sign, plus_assign_sign, minus_assign_sign, times_assign_sign, mod_assign_sign, floor_sign, plus_sign, minus_sign, times_sign, mod_sign, assign_sign, open_parenthesis, open_bracket, close_brace, colon, comma, dot}
use Rattle.py_grammar.specs.Expressions.{Expression, Exprs, Compares, compares_none, compares_not_none, Primary}
use Rattle.py_grammar.specs.Readings.{Upper, Lower, in_display, in_dict, in_call, Opened, opened, Reading, wants, has, has_none, has_not_none, after_is, after_is_not, after_method, compares_of, expression_of, close_brace_after, comma_after, behind, operator, is_what, is_not_what, method_what, read, exprs_after, whole}
use Rattle.py_grammar.specs.Statements.{Head, Augmentation, by_plus, by_minus, by_times, by_floor, by_modulo, Names, return_, give, assign, augment, show, Statements}
use Rattle.py_grammar.specs.States.{Outer, Spot, Purpose, showing, giving, deleting, assigning, augmenting, Lead, lead_if, lead_elif, lead_while, lead_for, State, line, in_simple, in_test, has_params, after_colon, place_of, targets_of, is_begun, if_made, if_deleted, finished, head_of, then_simple, on_line, ends, assigns, augments, on_simple, tested, then_test, on_param, on_colon, step}
use Rattle.py_grammar.specs.Outside.{ruleless, first_of, comma_begins, brace_begins, behind_whole, not_none, not_none_or_not, no_call, outside_reading, chained_by, chained, default_at, nested, inline_function, outside_state, outside}

-- ---- keywords that no rule has

tested-none : (os : List Outer) (before : Option Statements) (t : Kind) (a : Option Head) → ((a : Head) → tested os before (Some a) t ≡ None) → tested os before a t ≡ None
tested-none os before t None h = refl
tested-none os before t (Some a) h = h a

read-as : (r : Reading) → read r as_word ≡ None
read-as (wants os u w) = refl
read-as _ = refl

step-as : (s : State) → step s as_word ≡ None
step-as (in_simple os at u r) = ap (then_simple os at u) (read-as r)
step-as (in_test os before lead r) = ap (then_test os before lead r as_word) (read-as r) ∙ tested-none os before as_word (head_of lead (whole r)) (λ a. refl)
step-as _ = refl

read-assert : (r : Reading) → read r assert_word ≡ None
read-assert (wants os u w) = refl
read-assert _ = refl

step-assert : (s : State) → step s assert_word ≡ None
step-assert (in_simple os at u r) = ap (then_simple os at u) (read-assert r)
step-assert (in_test os before lead r) = ap (then_test os before lead r assert_word) (read-assert r) ∙ tested-none os before assert_word (head_of lead (whole r)) (λ a. refl)
step-assert _ = refl

read-async : (r : Reading) → read r async_word ≡ None
read-async (wants os u w) = refl
read-async _ = refl

step-async : (s : State) → step s async_word ≡ None
step-async (in_simple os at u r) = ap (then_simple os at u) (read-async r)
step-async (in_test os before lead r) = ap (then_test os before lead r async_word) (read-async r) ∙ tested-none os before async_word (head_of lead (whole r)) (λ a. refl)
step-async _ = refl

read-await : (r : Reading) → read r await_word ≡ None
read-await (wants os u w) = refl
read-await _ = refl

step-await : (s : State) → step s await_word ≡ None
step-await (in_simple os at u r) = ap (then_simple os at u) (read-await r)
step-await (in_test os before lead r) = ap (then_test os before lead r await_word) (read-await r) ∙ tested-none os before await_word (head_of lead (whole r)) (λ a. refl)
step-await _ = refl

read-class : (r : Reading) → read r class_word ≡ None
read-class (wants os u w) = refl
read-class _ = refl

step-class : (s : State) → step s class_word ≡ None
step-class (in_simple os at u r) = ap (then_simple os at u) (read-class r)
step-class (in_test os before lead r) = ap (then_test os before lead r class_word) (read-class r) ∙ tested-none os before class_word (head_of lead (whole r)) (λ a. refl)
step-class _ = refl

read-except : (r : Reading) → read r except_word ≡ None
read-except (wants os u w) = refl
read-except _ = refl

step-except : (s : State) → step s except_word ≡ None
step-except (in_simple os at u r) = ap (then_simple os at u) (read-except r)
step-except (in_test os before lead r) = ap (then_test os before lead r except_word) (read-except r) ∙ tested-none os before except_word (head_of lead (whole r)) (λ a. refl)
step-except _ = refl

read-finally : (r : Reading) → read r finally_word ≡ None
read-finally (wants os u w) = refl
read-finally _ = refl

step-finally : (s : State) → step s finally_word ≡ None
step-finally (in_simple os at u r) = ap (then_simple os at u) (read-finally r)
step-finally (in_test os before lead r) = ap (then_test os before lead r finally_word) (read-finally r) ∙ tested-none os before finally_word (head_of lead (whole r)) (λ a. refl)
step-finally _ = refl

read-from : (r : Reading) → read r from_word ≡ None
read-from (wants os u w) = refl
read-from _ = refl

step-from : (s : State) → step s from_word ≡ None
step-from (in_simple os at u r) = ap (then_simple os at u) (read-from r)
step-from (in_test os before lead r) = ap (then_test os before lead r from_word) (read-from r) ∙ tested-none os before from_word (head_of lead (whole r)) (λ a. refl)
step-from _ = refl

read-import : (r : Reading) → read r import_word ≡ None
read-import (wants os u w) = refl
read-import _ = refl

step-import : (s : State) → step s import_word ≡ None
step-import (in_simple os at u r) = ap (then_simple os at u) (read-import r)
step-import (in_test os before lead r) = ap (then_test os before lead r import_word) (read-import r) ∙ tested-none os before import_word (head_of lead (whole r)) (λ a. refl)
step-import _ = refl

read-lambda : (r : Reading) → read r lambda_word ≡ None
read-lambda (wants os u w) = refl
read-lambda _ = refl

step-lambda : (s : State) → step s lambda_word ≡ None
step-lambda (in_simple os at u r) = ap (then_simple os at u) (read-lambda r)
step-lambda (in_test os before lead r) = ap (then_test os before lead r lambda_word) (read-lambda r) ∙ tested-none os before lambda_word (head_of lead (whole r)) (λ a. refl)
step-lambda _ = refl

read-nonlocal : (r : Reading) → read r nonlocal_word ≡ None
read-nonlocal (wants os u w) = refl
read-nonlocal _ = refl

step-nonlocal : (s : State) → step s nonlocal_word ≡ None
step-nonlocal (in_simple os at u r) = ap (then_simple os at u) (read-nonlocal r)
step-nonlocal (in_test os before lead r) = ap (then_test os before lead r nonlocal_word) (read-nonlocal r) ∙ tested-none os before nonlocal_word (head_of lead (whole r)) (λ a. refl)
step-nonlocal _ = refl

read-raise : (r : Reading) → read r raise_word ≡ None
read-raise (wants os u w) = refl
read-raise _ = refl

step-raise : (s : State) → step s raise_word ≡ None
step-raise (in_simple os at u r) = ap (then_simple os at u) (read-raise r)
step-raise (in_test os before lead r) = ap (then_test os before lead r raise_word) (read-raise r) ∙ tested-none os before raise_word (head_of lead (whole r)) (λ a. refl)
step-raise _ = refl

read-try : (r : Reading) → read r try_word ≡ None
read-try (wants os u w) = refl
read-try _ = refl

step-try : (s : State) → step s try_word ≡ None
step-try (in_simple os at u r) = ap (then_simple os at u) (read-try r)
step-try (in_test os before lead r) = ap (then_test os before lead r try_word) (read-try r) ∙ tested-none os before try_word (head_of lead (whole r)) (λ a. refl)
step-try _ = refl

read-with : (r : Reading) → read r with_word ≡ None
read-with (wants os u w) = refl
read-with _ = refl

step-with : (s : State) → step s with_word ≡ None
step-with (in_simple os at u r) = ap (then_simple os at u) (read-with r)
step-with (in_test os before lead r) = ap (then_test os before lead r with_word) (read-with r) ∙ tested-none os before with_word (head_of lead (whole r)) (λ a. refl)
step-with _ = refl

read-yield : (r : Reading) → read r yield_word ≡ None
read-yield (wants os u w) = refl
read-yield _ = refl

step-yield : (s : State) → step s yield_word ≡ None
step-yield (in_simple os at u r) = ap (then_simple os at u) (read-yield r)
step-yield (in_test os before lead r) = ap (then_test os before lead r yield_word) (read-yield r) ∙ tested-none os before yield_word (head_of lead (whole r)) (λ a. refl)
step-yield _ = refl

ruleless-refused : (s : State) (t : Kind) (c : Construct) → ruleless t ≡ Some c → step s t ≡ None
ruleless-refused s as_word c h = step-as s
ruleless-refused s assert_word c h = step-assert s
ruleless-refused s async_word c h = step-async s
ruleless-refused s await_word c h = step-await s
ruleless-refused s class_word c h = step-class s
ruleless-refused s except_word c h = step-except s
ruleless-refused s finally_word c h = step-finally s
ruleless-refused s from_word c h = step-from s
ruleless-refused s import_word c h = step-import s
ruleless-refused s lambda_word c h = step-lambda s
ruleless-refused s nonlocal_word c h = step-nonlocal s
ruleless-refused s raise_word c h = step-raise s
ruleless-refused s try_word c h = step-try s
ruleless-refused s with_word c h = step-with s
ruleless-refused s yield_word c h = step-yield s
ruleless-refused s _ c h = cc

-- ---- in an expression

comma-refused : (os : List Opened) (a : Option Expression) (k : Construct) → comma_begins os a ≡ Some k → comma_after os a ≡ None
comma-refused (opened v x (in_dict None) ∷ os) (Some a) k h = refl
comma-refused _ _ k h = cc

brace-refused : (os : List Opened) (a : Option Expression) (k : Construct) → brace_begins os a ≡ Some k → close_brace_after os a ≡ None
brace-refused (opened v x (in_dict None) ∷ os) (Some a) k h = refl
brace-refused _ _ k h = cc

whole-refused : (os : List Opened) (u : Upper) (c : Compares) (t : Kind) (k : Construct) → behind_whole os (expression_of u c) t ≡ Some k → behind os u c t ≡ None
whole-refused os u c comma k h = comma-refused os (expression_of u c) k h
whole-refused os u c for_word k h = refl
whole-refused os u c close_brace k h = brace-refused os (expression_of u c) k h
whole-refused os u c assign_sign k h = refl
whole-refused os u c _ k h = cc

-- such a token is read after a primary as after a comparison
falls : (os : List Opened) (u : Upper) (w : Lower) (p : Primary) (a : Option Expression) (t : Kind) (k : Construct) → behind_whole os a t ≡ Some k → operator os u w p t ≡ behind os u (compares_of w p) t
falls os u w p a open_parenthesis k h = cc
falls os u w p a open_bracket k h = cc
falls os u w p a dot k h = cc
falls os u w p a plus_sign k h = cc
falls os u w p a minus_sign k h = cc
falls os u w p a times_sign k h = cc
falls os u w p a floor_sign k h = cc
falls os u w p a mod_sign k h = cc
falls os u w p a _ k h = refl

is-refused : (os : List Opened) (u : Upper) (c : Compares) (t : Kind) (k : Construct) → not_none_or_not t ≡ Some k → is_what os u c t ≡ None
is-refused os u c none_word k h = cc
is-refused os u c not_word k h = cc
is-refused os u c _ k h = refl

is_not-refused : (os : List Opened) (u : Upper) (c : Compares) (t : Kind) (k : Construct) → not_none t ≡ Some k → is_not_what os u c t ≡ None
is_not-refused os u c none_word k h = cc
is_not-refused os u c _ k h = refl

method-refused : (os : List Opened) (u : Upper) (w : Lower) (p : Primary) (n : List ℕ) (t : Kind) (k : Construct) → no_call t ≡ Some k → method_what os u w p n t ≡ None
method-refused os u w p n open_parenthesis k h = cc
method-refused os u w p n _ k h = refl

reading-refused : (r : Reading) (t : Kind) (k : Construct) → outside_reading r t ≡ Some k → read r t ≡ None
reading-refused (has os u w p) t k h = falls os u w p (expression_of u (compares_of w p)) t k h ∙ whole-refused os u (compares_of w p) t k h
reading-refused (has_none os u c) t k h = whole-refused os u (compares_none c) t k h
reading-refused (has_not_none os u c) t k h = whole-refused os u (compares_not_none c) t k h
reading-refused (after_is os u c) t k h = is-refused os u c t k h
reading-refused (after_is_not os u c) t k h = is_not-refused os u c t k h
reading-refused (after_method os u w p n) t k h = method-refused os u w p n t k h
reading-refused _ t k h = cc

-- ---- in a statement

unfinished : (u : Purpose) (r : Reading) → whole r ≡ None → is_begun r ≡ false → finished u r ≡ None
unfinished showing r h b = ap (if_made show) h
unfinished giving r h b = ap (λ x. if x then Some return_ else if_made give (whole r)) b ∙ ap (if_made give) h
unfinished deleting r h b = ap (λ x. if_deleted (place_of x)) h
unfinished (assigning ts) r h b = ap (if_made (assign ts)) h
unfinished (augmenting to by) r h b = ap (if_made (augment to by)) h

newline-refused : (u : Purpose) (r : Reading) (k : Construct) → outside_reading r t.Newline ≡ Some k → finished u r ≡ None
newline-refused u (after_is os v c) k h = unfinished u (after_is os v c) refl refl
newline-refused u (after_is_not os v c) k h = unfinished u (after_is_not os v c) refl refl
newline-refused u (after_method os v w p n) k h = unfinished u (after_method os v w p n) refl refl
newline-refused u _ k h = cc

-- no such token begins a construct behind an expression outside all brackets
abbrev Quiet : Kind → Type 0
Quiet t = (os : List Opened) (a : Option Expression) (k : Construct) → behind_whole os a t ≡ Some k → exprs_after os a ≡ None

unwhole : (r : Reading) (t : Kind) (k : Construct) → Quiet t → outside_reading r t ≡ Some k → whole r ≡ None
unwhole (has os u w p) t k e h = e os (expression_of u (compares_of w p)) k h
unwhole (has_none os u c) t k e h = e os (expression_of u (compares_none c)) k h
unwhole (has_not_none os u c) t k e h = e os (expression_of u (compares_not_none c)) k h
unwhole (wants os u w) t k e h = cc
unwhole _ t k e h = refl

assigns-none : (os : List Outer) (at : Spot) (u : Purpose) → assigns os at u None ≡ None
assigns-none os at showing = refl
assigns-none os at _ = refl

augments-none : (os : List Outer) (at : Spot) (by : Augmentation) (u : Purpose) → augments os at by u None ≡ None
augments-none os at by showing = refl
augments-none os at by _ = refl

quiet-equals : Quiet assign_sign
quiet-equals (opened u w (in_display es) ∷ os) (Some a) k h = refl
quiet-equals (opened u w (in_call f es) ∷ os) (Some a) k h = refl
quiet-equals _ _ k h = cc

equals-refused : (os : List Outer) (at : Spot) (u : Purpose) (r : Reading) (a : Option Exprs) (k : Construct) → first_of (chained_by u a) (outside_reading r assign_sign) ≡ Some k → assigns os at u (targets_of (whole r)) ≡ None
equals-refused os at (assigning ts) r a k h = refl
equals-refused os at (augmenting to by) r a k h = refl
equals-refused os at giving r a k h = refl
equals-refused os at deleting r a k h = refl
equals-refused os at showing r a k h = ap (λ x. assigns os at showing (targets_of x)) (unwhole r assign_sign k quiet-equals h) ∙ assigns-none os at showing

simple-refused : (os : List Outer) (at : Spot) (u : Purpose) (r : Reading) (t : Kind) (k : Construct) → first_of (chained u (whole r) t) (outside_reading r t) ≡ Some k → on_simple os at u r t ≡ None
simple-refused os at u r t.Newline k h = ap (ends os at) (newline-refused u r k h)
simple-refused os at u r assign_sign k h = equals-refused os at u r (whole r) k h
simple-refused os at u r plus_assign_sign k h = ap (λ x. augments os at by_plus u (place_of x)) (unwhole r plus_assign_sign k (λ os a k h. cc) h) ∙ augments-none os at by_plus u
simple-refused os at u r minus_assign_sign k h = ap (λ x. augments os at by_minus u (place_of x)) (unwhole r minus_assign_sign k (λ os a k h. cc) h) ∙ augments-none os at by_minus u
simple-refused os at u r times_assign_sign k h = ap (λ x. augments os at by_times u (place_of x)) (unwhole r times_assign_sign k (λ os a k h. cc) h) ∙ augments-none os at by_times u
simple-refused os at u r floor_assign_sign k h = ap (λ x. augments os at by_floor u (place_of x)) (unwhole r floor_assign_sign k (λ os a k h. cc) h) ∙ augments-none os at by_floor u
simple-refused os at u r mod_assign_sign k h = ap (λ x. augments os at by_modulo u (place_of x)) (unwhole r mod_assign_sign k (λ os a k h. cc) h) ∙ augments-none os at by_modulo u
simple-refused os at u r t k h = ap (then_simple os at u) (reading-refused r t k h)

headless : (lead : Lead) → head_of lead None ≡ None
headless lead_if = refl
headless (lead_elif bs) = refl
headless lead_while = refl
headless (lead_for vs) = refl

tested-refused : (os : List Outer) (before : Option Statements) (lead : Lead) (r : Reading) (t : Kind) (k : Construct) → outside_reading r t ≡ Some k → tested os before (head_of lead (whole r)) t ≡ None
tested-refused os before lead r colon k h = ap (λ a. tested os before (head_of lead a) colon) (unwhole r colon k (λ os a k h. cc) h) ∙ ap (λ a. tested os before a colon) (headless lead)
tested-refused os before lead r t k h = tested-none os before t (head_of lead (whole r)) (λ a. refl)

test-refused : (os : List Outer) (before : Option Statements) (lead : Lead) (r : Reading) (t : Kind) (k : Construct) → outside_reading r t ≡ Some k → then_test os before lead r t (read r t) ≡ None
test-refused os before lead r t k h = ap (then_test os before lead r t) (reading-refused r t k h) ∙ tested-refused os before lead r t k h

line-refused : (os : List Outer) (before : Option Statements) (t : Kind) (k : Construct) → nested os t ≡ Some k → on_line os before t ≡ None
line-refused (o ∷ os) before def_word k h = refl
line-refused _ before _ k h = cc

default-refused : (before : Option Statements) (n : List ℕ) (ns : Names) (t : Kind) (k : Construct) → default_at t ≡ Some k → on_param before n ns t ≡ None
default-refused before n ns assign_sign k h = refl
default-refused before n ns _ k h = cc

inline-refused : (os : List Outer) (o : Outer) (t : Kind) (k : Construct) → inline_function t ≡ Some k → on_colon os o t ≡ None
inline-refused os o def_word k h = refl
inline-refused os o _ k h = cc

state-refused : (s : State) (t : Kind) (k : Construct) → outside_state s t ≡ Some k → step s t ≡ None
state-refused (line os before) t k h = line-refused os before t k h
state-refused (in_simple os at u r) t k h = simple-refused os at u r t k h
state-refused (in_test os before lead r) t k h = test-refused os before lead r t k h
state-refused (has_params before n ns) t k h = default-refused before n ns t k h
state-refused (after_colon os o) t k h = inline-refused os o t k h
state-refused _ t k h = cc

either-refused : (s : State) (t : Kind) (k : Construct) (o : Option Construct) → ruleless t ≡ o → first_of o (outside_state s t) ≡ Some k → step s t ≡ None
either-refused s t k None e h = state-refused s t k h
either-refused s t k (Some c) e h = ruleless-refused s t c e

-- a token that begins a construct outside the grammar is refused
pub outside-refused : (s : State) (t : Kind) (k : Construct) → outside s t ≡ Some k → step s t ≡ None
outside-refused s t k h = either-refused s t k (ruleless t) refl h
