-- Whether what has been read may end as one function alone: each token within it keeps that.
use Rattle.std.proofs.Common.{◌≡◌, ℕ, Bool, true, false, List, [], ◌∷◌, Option, Some, None, ◌⊎◌, inl, inr, refl, subst}
use Rattle.py_token.specs.declared.kinds.Kind.{Kind}
use Rattle.py_token.specs.declared.kinds.Kind.TheVariants as t
use Rattle.py_grammar.specs.Words.{if_word, else_word, elif_word, while_word, for_word, in_word, pass_word, break_word, continue_word, return_word, global_word, del_word, def_word, floor_assign_sign, plus_assign_sign, minus_assign_sign, times_assign_sign, mod_assign_sign, assign_sign, open_parenthesis, close_parenthesis, colon, comma}
use Rattle.py_grammar.specs.Expressions.{Exprs, single}
use Rattle.py_grammar.specs.Readings.{Reading, begun, read, whole, narrow}
use Rattle.py_grammar.specs.Statements.{Target, Targets, Augmentation, by_plus, by_minus, by_times, by_floor, by_modulo, Names, Word, break_, continue_, Simple, word, declare, Params, compound, Head, choose, otherwise, while_true, for_each, define, Branches, Block, inline, indented, Statements, statements_one}
use Rattle.py_grammar.specs.States.{Outer, outer, Spot, own, behind_head, Purpose, showing, giving, deleting, Lead, lead_if, lead_elif, lead_while, lead_for, State, line, in_simple, after_word, in_global, has_global, in_test, in_variables, has_variables, after_else, after_def, after_def_name, in_params, has_params, after_params, after_colon, after_newline, done, spot_around, spot_heard, add_name, close, ended, place_of, targets_of, finished, head_of, fits, Continued, continued, last_branches, if_allowed, then_simple, begins, elif_at, else_at, dedent_at, on_line, ends, assigns, augments, on_simple, on_word, is_new_name, on_global, on_global_name, tested, then_test, variables_end, on_variables, on_variable, on_else, on_def, on_def_name, on_params, on_param, on_params_end, on_colon, on_newline, step}
use Rattle.py_grammar.specs.AloneMachine.{on_first, on_last, step_alone}

-- ---- what may end as one function alone

abbrev pub is_function : Statements → Bool
is_function (statements_one (compound (define n ps) b)) = true
is_function _ = false

abbrev pub is_alone : Option Statements → Bool
is_alone None = false
is_alone (Some ss) = is_function ss

-- nothing has ended, or one function
abbrev may_be : Option Statements → Bool
may_be None = true
may_be (Some ss) = is_function ss

abbrev is_nothing : Option Statements → Bool
is_nothing None = true
is_nothing (Some ss) = false

-- a function with nothing before it
abbrev opens : Option Statements → Head → Bool
opens None (define n ps) = true
opens None _ = false
opens (Some ss) h = false

abbrev opened : Outer → Bool
opened (outer before h) = opens before h

-- the outermost of these opens the text as a function
abbrev within : Outer → List Outer → Bool
within o [] = opened o
within o (p ∷ os) = within p os

abbrev all_within : List Outer → Bool
all_within [] = false
all_within (o ∷ os) = within o os

abbrev line_within : List Outer → Option Statements → Bool
line_within [] before = may_be before
line_within (o ∷ os) before = within o os

abbrev spot_within : List Outer → Spot → Bool
spot_within os (own before) = all_within os
spot_within os (behind_head o) = within o os

abbrev pub ends_alone : State → Bool
ends_alone (line os before) = line_within os before
ends_alone (in_simple os at u r) = spot_within os at
ends_alone (after_word os at w) = spot_within os at
ends_alone (in_global os at ns) = spot_within os at
ends_alone (has_global os at ns) = spot_within os at
ends_alone (in_test os before lead r) = all_within os
ends_alone (in_variables os before ns) = all_within os
ends_alone (has_variables os before ns) = all_within os
ends_alone (after_else os before bs) = all_within os
ends_alone (after_def before) = is_nothing before
ends_alone (after_def_name before n) = is_nothing before
ends_alone (in_params before n ns) = is_nothing before
ends_alone (has_params before n ns) = is_nothing before
ends_alone (after_params before n ps) = is_nothing before
ends_alone (after_colon os o) = within o os
ends_alone (after_newline os o) = within o os
ends_alone (done c) = is_alone c

-- what a token makes, if anything, ends alone if and only if this says so
abbrev pub Same : Bool → Option State → Type 0
Same b None = Unit {0}
Same b (Some u) = ends_alone u ≡ b

-- ---- in a statement

closed-same : (o : Outer) (os : List Outer) (b : Block) → line_within os (close o b) ≡ within o os
closed-same (outer None (choose c)) [] b = refl
closed-same (outer None (otherwise bs)) [] b = refl
closed-same (outer None (while_true a)) [] b = refl
closed-same (outer None (for_each vs a)) [] b = refl
closed-same (outer None (define n ps)) [] b = refl
closed-same (outer (Some ss) h) [] b = refl
closed-same o (p ∷ os) b = refl

ended-same : (os : List Outer) (at : Spot) (s : Simple) → ends_alone (ended os at s) ≡ spot_within os at
ended-same [] (own None) s = refl
ended-same [] (own (Some ss)) s = refl
ended-same (o ∷ os) (own before) s = refl
ended-same os (behind_head o) s = closed-same o os (inline s)

allowed-same : (allowed : Bool) (s : State) (b : Bool) → ends_alone s ≡ b → Same b (if_allowed allowed s)
allowed-same true s b h = h
allowed-same false s b h = tt

ends-same : (os : List Outer) (at : Spot) (s : Option Simple) → Same (spot_within os at) (ends os at s)
ends-same os at None = tt
ends-same os at (Some s) = ended-same os at s

assigns-same : (os : List Outer) (at : Spot) (u : Purpose) (ts : Option Targets) → Same (spot_within os at) (assigns os at u ts)
assigns-same os at showing (Some ts) = refl
assigns-same os at _ _ = tt

augments-same : (os : List Outer) (at : Spot) (by : Augmentation) (u : Purpose) (to : Option Target) → Same (spot_within os at) (augments os at by u to)
augments-same os at by showing (Some to) = refl
augments-same os at by _ _ = tt

then_simple-same : (os : List Outer) (at : Spot) (u : Purpose) (r : Option Reading) → Same (spot_within os at) (then_simple os at u r)
then_simple-same os at u None = tt
then_simple-same os at deleting (Some r) = allowed-same (narrow r) (in_simple os at deleting r) (spot_within os at) refl
then_simple-same os at _ (Some r) = refl

begins-same : (os : List Outer) (at : Spot) (k : Kind) → Same (spot_within os at) (begins os at k)
begins-same os at pass_word = refl
begins-same os at break_word = allowed-same (spot_around os at).in_loop (after_word os at break_) (spot_within os at) refl
begins-same os at continue_word = allowed-same (spot_around os at).in_loop (after_word os at continue_) (spot_within os at) refl
begins-same os at return_word = allowed-same (spot_around os at).in_function (in_simple os at giving begun) (spot_within os at) refl
begins-same os at global_word = allowed-same (spot_around os at).in_function (in_global os at None) (spot_within os at) refl
begins-same os at del_word = refl
begins-same os at k = then_simple-same os at showing (read begun k)

on_simple-same : (os : List Outer) (at : Spot) (u : Purpose) (r : Reading) (k : Kind) → Same (spot_within os at) (on_simple os at u r k)
on_simple-same os at u r t.Newline = ends-same os at (finished u r)
on_simple-same os at u r assign_sign = assigns-same os at u (targets_of (whole r))
on_simple-same os at u r plus_assign_sign = augments-same os at by_plus u (place_of (whole r))
on_simple-same os at u r minus_assign_sign = augments-same os at by_minus u (place_of (whole r))
on_simple-same os at u r times_assign_sign = augments-same os at by_times u (place_of (whole r))
on_simple-same os at u r floor_assign_sign = augments-same os at by_floor u (place_of (whole r))
on_simple-same os at u r mod_assign_sign = augments-same os at by_modulo u (place_of (whole r))
on_simple-same os at u r k = then_simple-same os at u (read r k)

on_word-same : (os : List Outer) (at : Spot) (w : Word) (k : Kind) → Same (spot_within os at) (on_word os at w k)
on_word-same os at w t.Newline = ended-same os at (word w)
on_word-same os at w _ = tt

on_global-same : (os : List Outer) (at : Spot) (ns : Option Names) (k : Kind) → Same (spot_within os at) (on_global os at ns k)
on_global-same os at ns (t.Name n) = allowed-same (is_new_name ns n (spot_heard os at)) (has_global os at (add_name ns n)) (spot_within os at) refl
on_global-same os at ns _ = tt

on_global_name-same : (os : List Outer) (at : Spot) (ns : Names) (k : Kind) → Same (spot_within os at) (on_global_name os at ns k)
on_global_name-same os at ns comma = refl
on_global_name-same os at ns t.Newline = ended-same os at (declare ns)
on_global_name-same os at ns _ = tt

-- ---- in a head

headed-same : (os : List Outer) (before : Option Statements) (lead : Lead) (a : Option Exprs) (k : Kind) → Same (all_within os) (tested os before (head_of lead a) k)
headed-same [] None lead_if (Some (single a)) colon = refl
headed-same [] None (lead_elif bs) (Some (single a)) colon = refl
headed-same [] None lead_while (Some (single a)) colon = refl
headed-same [] None (lead_for vs) (Some a) colon = refl
headed-same [] (Some ss) lead_if (Some (single a)) colon = refl
headed-same [] (Some ss) (lead_elif bs) (Some (single a)) colon = refl
headed-same [] (Some ss) lead_while (Some (single a)) colon = refl
headed-same [] (Some ss) (lead_for vs) (Some a) colon = refl
headed-same (p ∷ os) before lead_if (Some (single a)) colon = refl
headed-same (p ∷ os) before (lead_elif bs) (Some (single a)) colon = refl
headed-same (p ∷ os) before lead_while (Some (single a)) colon = refl
headed-same (p ∷ os) before (lead_for vs) (Some a) colon = refl
headed-same os before lead a k = tt

then_test-same : (os : List Outer) (before : Option Statements) (lead : Lead) (r : Reading) (k : Kind) (s : Option Reading) → Same (all_within os) (then_test os before lead r k s)
then_test-same os before lead r k (Some s) = allowed-same (fits lead s) (in_test os before lead s) (all_within os) refl
then_test-same os before lead r k None = headed-same os before lead (whole r) k

elif_at-same : (os : List Outer) (c : Option Continued) → Same (all_within os) (elif_at os c)
elif_at-same os None = tt
elif_at-same os (Some (continued before bs)) = refl

else_at-same : (os : List Outer) (c : Option Continued) → Same (all_within os) (else_at os c)
else_at-same os None = tt
else_at-same os (Some (continued before bs)) = refl

variables_end-same : (os : List Outer) (before : Option Statements) (ns : Option Names) → Same (all_within os) (variables_end os before ns)
variables_end-same os before None = tt
variables_end-same os before (Some ns) = refl

on_variables-same : (os : List Outer) (before : Option Statements) (ns : Option Names) (k : Kind) → Same (all_within os) (on_variables os before ns k)
on_variables-same os before ns (t.Name n) = refl
on_variables-same os before ns in_word = variables_end-same os before ns
on_variables-same os before ns _ = tt

on_variable-same : (os : List Outer) (before : Option Statements) (ns : Names) (k : Kind) → Same (all_within os) (on_variable os before ns k)
on_variable-same os before ns comma = refl
on_variable-same os before ns in_word = refl
on_variable-same os before ns _ = tt

otherwise-same : (os : List Outer) (before : Option Statements) (bs : Branches) → within (outer before (otherwise bs)) os ≡ all_within os
otherwise-same [] None bs = refl
otherwise-same [] (Some ss) bs = refl
otherwise-same (p ∷ os) before bs = refl

on_else-same : (os : List Outer) (before : Option Statements) (bs : Branches) (k : Kind) → Same (all_within os) (on_else os before bs k)
on_else-same os before bs colon = otherwise-same os before bs
on_else-same os before bs _ = tt

on_def-same : (before : Option Statements) (k : Kind) → Same (is_nothing before) (on_def before k)
on_def-same before (t.Name n) = refl
on_def-same before _ = tt

on_def_name-same : (before : Option Statements) (n : List ℕ) (k : Kind) → Same (is_nothing before) (on_def_name before n k)
on_def_name-same before n open_parenthesis = refl
on_def_name-same before n _ = tt

on_params-same : (before : Option Statements) (n : List ℕ) (ns : Option Names) (k : Kind) → Same (is_nothing before) (on_params before n ns k)
on_params-same before n ns (t.Name m) = allowed-same (is_new_name ns m (λ rest. rest)) (has_params before n (add_name ns m)) (is_nothing before) refl
on_params-same before n ns close_parenthesis = refl
on_params-same before n ns _ = tt

on_param-same : (before : Option Statements) (n : List ℕ) (ns : Names) (k : Kind) → Same (is_nothing before) (on_param before n ns k)
on_param-same before n ns comma = refl
on_param-same before n ns close_parenthesis = refl
on_param-same before n ns _ = tt

define-same : (before : Option Statements) (n : List ℕ) (ps : Params) → opens before (define n ps) ≡ is_nothing before
define-same None n ps = refl
define-same (Some ss) n ps = refl

on_params_end-same : (before : Option Statements) (n : List ℕ) (ps : Params) (k : Kind) → Same (is_nothing before) (on_params_end before n ps k)
on_params_end-same before n ps colon = define-same before n ps
on_params_end-same before n ps _ = tt

on_colon-same : (os : List Outer) (o : Outer) (k : Kind) → Same (within o os) (on_colon os o k)
on_colon-same os o t.Newline = refl
on_colon-same os o k = begins-same os (behind_head o) k

on_newline-same : (os : List Outer) (o : Outer) (k : Kind) → Same (within o os) (on_newline os o k)
on_newline-same os o t.Indent = refl
on_newline-same os o _ = tt

-- ---- where a statement begins

dedent_at-same : (o : Outer) (os : List Outer) (before : Option Statements) → Same (within o os) (dedent_at (o ∷ os) before)
dedent_at-same o os None = tt
dedent_at-same o os (Some ss) = closed-same o os (indented ss)

block-same : (o : Outer) (os : List Outer) (before : Option Statements) (k : Kind) → Same (within o os) (on_line (o ∷ os) before k)
block-same o os before if_word = refl
block-same o os before elif_word = elif_at-same (o ∷ os) (last_branches before)
block-same o os before else_word = else_at-same (o ∷ os) (last_branches before)
block-same o os before while_word = refl
block-same o os before for_word = refl
block-same o os before def_word = tt
block-same o os before t.Dedent = dedent_at-same o os before
block-same o os before t.End = tt
block-same o os before k = begins-same (o ∷ os) (own before) k

-- at the top only `def` with nothing before it, or the end of a function
abbrev then_alone_at : Option Statements → Kind → Bool
then_alone_at before def_word = is_nothing before
then_alone_at before t.End = is_alone before
then_alone_at before _ = false

top-same : (before : Option Statements) (k : Kind) → Same (then_alone_at before k) (on_line [] before k)
top-same before if_word = refl
top-same before elif_word = elif_at-same [] (last_branches before)
top-same before else_word = else_at-same [] (last_branches before)
top-same before while_word = refl
top-same before for_word = refl
top-same before def_word = refl
top-same before t.Dedent = tt
top-same before t.End = refl
top-same before k = begins-same [] (own before) k

-- ---- anywhere

abbrev at_top : State → Bool
at_top (line [] before) = true
at_top _ = false

step-same : (s : State) (k : Kind) → at_top s ≡ false → Same (ends_alone s) (step s k)
step-same (line [] before) k h = let no : ⊥ = cc in absurd no
step-same (line (o ∷ os) before) k h = block-same o os before k
step-same (in_simple os at u r) k h = on_simple-same os at u r k
step-same (after_word os at w) k h = on_word-same os at w k
step-same (in_global os at ns) k h = on_global-same os at ns k
step-same (has_global os at ns) k h = on_global_name-same os at ns k
step-same (in_test os before lead r) k h = then_test-same os before lead r k (read r k)
step-same (in_variables os before ns) k h = on_variables-same os before ns k
step-same (has_variables os before ns) k h = on_variable-same os before ns k
step-same (after_else os before bs) k h = on_else-same os before bs k
step-same (after_def before) k h = on_def-same before k
step-same (after_def_name before n) k h = on_def_name-same before n k
step-same (in_params before n ns) k h = on_params-same before n ns k
step-same (has_params before n ns) k h = on_param-same before n ns k
step-same (after_params before n ps) k h = on_params_end-same before n ps k
step-same (after_colon os o) k h = on_colon-same os o k
step-same (after_newline os o) k h = on_newline-same os o k
step-same (done c) k h = tt

-- ---- what is read alone

first-kept : (k : Kind) → Same true (on_first k)
first-kept def_word = refl
first-kept _ = tt

last-kept : (ss : Statements) (k : Kind) → is_function ss ≡ true → Same true (on_last ss k)
last-kept ss t.End h = h
last-kept ss _ h = tt

pub alone-kept : (s : State) (k : Kind) → ends_alone s ≡ true → Same true (step_alone s k)
alone-kept (line [] None) k h = first-kept k
alone-kept (line [] (Some ss)) k h = last-kept ss k h
alone-kept s k h = subst (λ b. Same b (step s k)) h (step-same s k refl)

-- what can't end alone never can
lost : (ss : Statements) (k : Kind) → is_function ss ≡ false → then_alone_at (Some ss) k ≡ false
lost ss t.End h = h
lost ss def_word h = refl
lost ss _ h = refl

pub stray-kept : (s : State) (k : Kind) → ends_alone s ≡ false → Same false (step s k)
stray-kept (line [] None) k h = let no : ⊥ = cc in absurd no
stray-kept (line [] (Some ss)) k h = subst (λ b. Same b (on_line [] (Some ss) k)) (lost ss k h) (top-same (Some ss) k)
stray-kept s k h = subst (λ b. Same b (step s k)) h (step-same s k refl)

-- a token is read alone as in a cell, or what it makes can't end alone
abbrev pub Agrees : State → Kind → Type 0
Agrees s k = (step_alone s k ≡ step s k) ⊎ Same false (step s k)

first-agrees : (k : Kind) → Agrees (line [] None) k
first-agrees def_word = inl refl
first-agrees k = inr (top-same None k)

last-agrees : (ss : Statements) (k : Kind) → Agrees (line [] (Some ss)) k
last-agrees ss t.End = inl refl
last-agrees ss def_word = inr (top-same (Some ss) def_word)
last-agrees ss k = inr (top-same (Some ss) k)

pub agrees : (s : State) (k : Kind) → Agrees s k
agrees (line [] None) k = first-agrees k
agrees (line [] (Some ss)) k = last-agrees ss k
agrees s k = inl refl

-- a token that is read alone is read
first-read : (k : Kind) (u : State) → on_first k ≡ Some u → on_line [] None k ≡ Some u
first-read def_word u h = h
first-read _ u h = let no : ⊥ = cc in absurd no

last-read : (ss : Statements) (k : Kind) (u : State) → on_last ss k ≡ Some u → on_line [] (Some ss) k ≡ Some u
last-read ss t.End u h = h
last-read ss _ u h = let no : ⊥ = cc in absurd no

pub step-read : (s : State) (k : Kind) (u : State) → step_alone s k ≡ Some u → step s k ≡ Some u
step-read (line [] None) k u h = first-read k u h
step-read (line [] (Some ss)) k u h = last-read ss k u h
step-read s k u h = h
