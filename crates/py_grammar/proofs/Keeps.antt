-- The rules on what may be where hold of all that has been read.
use Rattle.std.proofs.Common.{◌≡◌, ℕ, Bool, true, false, IsTrue, if◌then◌else◌, List, [], ◌∷◌, ◌++◌, Option, Some, None, refl, ap, ◌∙◌, sym}
use Rattle.py_token.specs.declared.kinds.Kind.{Kind}
use Rattle.py_token.specs.declared.kinds.Kind.TheVariants as t
use Rattle.py_grammar.specs.Words.{if_word, else_word, elif_word, while_word, for_word, in_word, pass_word, break_word, continue_word, return_word, global_word, del_word, def_word, floor_assign_sign, plus_assign_sign, minus_assign_sign, times_assign_sign, mod_assign_sign, assign_sign, open_parenthesis, close_parenthesis, colon, comma}
use Rattle.py_grammar.specs.Expressions.{Exprs, single}
use Rattle.py_grammar.specs.Readings.{Reading, begun, read, whole, narrow, reading_stands}
use Rattle.py_grammar.specs.Open.{spell_reading}
use Rattle.py_grammar.specs.Statements.{Target, Targets, Head, Augmentation, by_plus, by_minus, by_times, by_floor, by_modulo, Names, Word, break_, continue_, Simple, word, return_, give, declare, assign, augment, show, Params, Statement, simple, compound, choose, Branches, inline, indented, Statements, statements_one, statements_more, Around, names_new, params_new, simple_stands, statement_stands, head_stands, branches_stand, spell_front, front_stands}
use Rattle.py_grammar.specs.States.{Outer, outer, Spot, own, behind_head, Purpose, showing, giving, deleting, assigning, augmenting, Lead, lead_if, lead_elif, lead_while, lead_for, State, line, in_simple, after_word, in_global, has_global, in_test, in_variables, has_variables, after_else, after_def, after_def_name, in_params, has_params, after_params, after_colon, after_newline, done, around, heard, spot_around, spot_heard, add_statement, add_name, ended, place_of, targets_of, is_begun, if_made, if_deleted, finished, head_of, fits, Continued, continued, last_branches, if_allowed, then_simple, begins, elif_at, else_at, def_at, dedent_at, end_at, on_line, ends, assigns, augments, on_simple, on_word, is_new_name, on_global, on_global_name, tested, then_test, variables_end, on_variables, on_variable, on_else, on_def, on_def_name, params_of, on_params, on_param, on_params_end, on_colon, on_newline, step, outers_stand, spot_stands, purpose_stands, lead_stands, some_names_new, state_stands}
use Rattle.py_grammar.proofs.Spelled.{Adds, read-adds}
use Rattle.py_grammar.proofs.Standing.{reading-tokens}
use Rattle.py_grammar.proofs.Lists.{KeepsLists, read-keeps}

abbrev pub Keeps : Option State → Type 0
Keeps None = Unit {0}
Keeps (Some s) = state_stands s

-- what a token makes is not where reading begins
adds-not-begun : (s : Reading) (t : Kind) (o : Option Reading) → Adds (spell_reading s) t o → o ≡ Some begun → ⊥
adds-not-begun s t None a h = cc
adds-not-begun s t (Some r) a h =
    let same : r ≡ begun = cc in
    let k = reading-tokens s in
    never k.tokens (ap (λ x. spell_reading x []) (sym same) ∙ a [] ∙ k.spelled (t ∷ []))
  where
    never : (ks : List Kind) → [] ≡ ks ++ t ∷ [] → ⊥
    never [] h = cc
    never (k ∷ ks) h = cc

pub not-begun : (s : Reading) (t : Kind) (r : Reading) → read s t ≡ Some r → r ≡ begun → ⊥
not-begun s t r h e = adds-not-begun s t (read s t) (read-adds s t) (h ∙ ap Some e)

pub add_statement-stands : (b : Option Statements) (s : Statement) (a : Around) (e : List Kind → List Kind) → front_stands b a e → statement_stands s a (λ rest. e (spell_front b rest)) → front_stands (add_statement b s) a e
add_statement-stands None s a e h k = k
add_statement-stands (Some ss) s a e h k = (h, k)

pub ended-stands : (os : List Outer) (at : Spot) (s : Simple) → outers_stand os → spot_stands os at → simple_stands s (spot_around os at) (spot_heard os at) → state_stands (ended os at s)
ended-stands os (own before) s h k m = (h, add_statement-stands before (simple s) (around os) (heard os) k m)
ended-stands os (behind_head (outer before hd)) s h k m = (h, add_statement-stands before (compound hd (inline s)) (around os) (heard os) k.0 (k.1, m))

allowed-keeps : (b : Bool) (s : State) → (IsTrue b → state_stands s) → Keeps (if_allowed b s)
allowed-keeps true s h = h refl
allowed-keeps false s h = tt

-- ---- a simple statement

abbrev SimpleStands : Option Simple → Around → (List Kind → List Kind) → Type 0
SimpleStands None a e = Unit {0}
SimpleStands (Some s) a e = simple_stands s a e

made-stands : (f : Exprs → Simple) (o : Option Exprs) (a : Around) (e : List Kind → List Kind) → ((x : Exprs) → simple_stands (f x) a e) → SimpleStands (if_made f o) a e
made-stands f None a e h = tt
made-stands f (Some x) a e h = h x

left-stands : (b : Bool) (o : Option Exprs) (a : Around) (e : List Kind → List Kind) → IsTrue a.in_function → SimpleStands (if b then Some return_ else if_made give o) a e
left-stands true o a e h = h
left-stands false o a e h = made-stands give o a e (λ x. h)

deleted-stands : (o : Option Target) (a : Around) (e : List Kind → List Kind) → SimpleStands (if_deleted o) a e
deleted-stands None a e = tt
deleted-stands (Some to) a e = tt

finished-stands : (u : Purpose) (r : Reading) (a : Around) (e : List Kind → List Kind) → purpose_stands u r a → SimpleStands (finished u r) a e
finished-stands showing r a e h = made-stands show (whole r) a e (λ x. tt)
finished-stands giving r a e h = left-stands (is_begun r) (whole r) a e h
finished-stands deleting r a e h = deleted-stands (place_of (whole r)) a e
finished-stands (assigning ts) r a e h = made-stands (assign ts) (whole r) a e (λ x. tt)
finished-stands (augmenting to by) r a e h = made-stands (augment to by) (whole r) a e (λ x. tt)

ends-keeps : (os : List Outer) (at : Spot) (s : Option Simple) → outers_stand os → spot_stands os at → SimpleStands s (spot_around os at) (spot_heard os at) → Keeps (ends os at s)
ends-keeps os at None h k m = tt
ends-keeps os at (Some s) h k m = ended-stands os at s h k m

assigns-keeps : (os : List Outer) (at : Spot) (u : Purpose) (ts : Option Targets) → outers_stand os → spot_stands os at → Keeps (assigns os at u ts)
assigns-keeps os at showing (Some ts) h k = (h, k, tt, tt)
assigns-keeps os at _ _ h k = tt

augments-keeps : (os : List Outer) (at : Spot) (by : Augmentation) (u : Purpose) (to : Option Target) → outers_stand os → spot_stands os at → Keeps (augments os at by u to)
augments-keeps os at by showing (Some to) h k = (h, k, tt, tt)
augments-keeps os at by _ _ h k = tt

-- what has to be known of the purpose before the token
abbrev Goes : Purpose → Option Reading → Around → Type 0
Goes showing o a = o ≡ Some begun → ⊥
Goes giving o a = IsTrue a.in_function
Goes deleting o a = Unit {0}
Goes (assigning to) o a = Unit {0}
Goes (augmenting to by) o a = Unit {0}

goes : (u : Purpose) (r : Reading) (t : Kind) (a : Around) → purpose_stands u r a → Goes u (read r t) a
goes showing r t a h = λ e. not-begun r t begun e refl
goes giving r t a h = h
goes deleting r t a h = tt
goes (assigning to) r t a h = tt
goes (augmenting to by) r t a h = tt

then_simple-keeps : (os : List Outer) (at : Spot) (u : Purpose) (o : Option Reading) → outers_stand os → spot_stands os at → Goes u o (spot_around os at) → KeepsLists o → Keeps (then_simple os at u o)
then_simple-keeps os at u None h k g l = tt
then_simple-keeps os at showing (Some r) h k g l = (h, k, λ e. g (ap Some e), l)
then_simple-keeps os at giving (Some r) h k g l = (h, k, g, l)
then_simple-keeps os at deleting (Some r) h k g l = allowed-keeps (narrow r) (in_simple os at deleting r) (λ n. (h, k, n, l))
then_simple-keeps os at (assigning ts) (Some r) h k g l = (h, k, tt, l)
then_simple-keeps os at (augmenting to by) (Some r) h k g l = (h, k, tt, l)

begins-keeps : (os : List Outer) (at : Spot) (t : Kind) → outers_stand os → spot_stands os at → Keeps (begins os at t)
begins-keeps os at pass_word h k = (h, k, tt)
begins-keeps os at break_word h k = allowed-keeps (spot_around os at).in_loop (after_word os at break_) (λ n. (h, k, n))
begins-keeps os at continue_word h k = allowed-keeps (spot_around os at).in_loop (after_word os at continue_) (λ n. (h, k, n))
begins-keeps os at return_word h k = allowed-keeps (spot_around os at).in_function (in_simple os at giving begun) (λ n. (h, k, n, tt))
begins-keeps os at global_word h k = allowed-keeps (spot_around os at).in_function (in_global os at None) (λ n. (h, k, n, tt))
begins-keeps os at del_word h k = (h, k, refl, tt)
begins-keeps os at t h k = then_simple-keeps os at showing (read begun t) h k (λ e. not-begun begun t begun e refl) (read-keeps begun t tt)

on_simple-keeps : (os : List Outer) (at : Spot) (u : Purpose) (r : Reading) (t : Kind) → outers_stand os → spot_stands os at → purpose_stands u r (spot_around os at) → reading_stands r → Keeps (on_simple os at u r t)
on_simple-keeps os at u r t.Newline h k m l = ends-keeps os at (finished u r) h k (finished-stands u r _ _ m)
on_simple-keeps os at u r assign_sign h k m l = assigns-keeps os at u (targets_of (whole r)) h k
on_simple-keeps os at u r plus_assign_sign h k m l = augments-keeps os at by_plus u (place_of (whole r)) h k
on_simple-keeps os at u r minus_assign_sign h k m l = augments-keeps os at by_minus u (place_of (whole r)) h k
on_simple-keeps os at u r times_assign_sign h k m l = augments-keeps os at by_times u (place_of (whole r)) h k
on_simple-keeps os at u r floor_assign_sign h k m l = augments-keeps os at by_floor u (place_of (whole r)) h k
on_simple-keeps os at u r mod_assign_sign h k m l = augments-keeps os at by_modulo u (place_of (whole r)) h k
on_simple-keeps os at u r t h k m l = then_simple-keeps os at u (read r t) h k (goes u r t _ m) (read-keeps r t l)

on_word-keeps : (os : List Outer) (at : Spot) (w : Word) (k : Kind) → state_stands (after_word os at w) → Keeps (on_word os at w k)
on_word-keeps os at w t.Newline h = ended-stands os at (word w) h.0 h.1 h.2
on_word-keeps os at w _ h = tt

pub add_name-stands : (ns : Option Names) (n : List ℕ) (e : List Kind → List Kind) → some_names_new ns e → IsTrue (is_new_name ns n e) → names_new (add_name ns n) e
add_name-stands None n e h k = k
add_name-stands (Some ns) n e h k = (h, k)

on_global-keeps : (os : List Outer) (at : Spot) (ns : Option Names) (k : Kind) → state_stands (in_global os at ns) → Keeps (on_global os at ns k)
on_global-keeps os at ns (t.Name n) h = allowed-keeps (is_new_name ns n (spot_heard os at)) (has_global os at (add_name ns n)) (λ m. (h.0, h.1, h.2, add_name-stands ns n (spot_heard os at) h.3 m))
on_global-keeps os at ns _ h = tt

on_global_name-keeps : (os : List Outer) (at : Spot) (ns : Names) (k : Kind) → state_stands (has_global os at ns) → Keeps (on_global_name os at ns k)
on_global_name-keeps os at ns comma h = h
on_global_name-keeps os at ns t.Newline h = ended-stands os at (declare ns) h.0 h.1 (h.2, h.3)
on_global_name-keeps os at ns _ h = tt

-- ---- heads and lines

abbrev HeadStands : Option Head → Around → (List Kind → List Kind) → Type 0
HeadStands None a e = Unit {0}
HeadStands (Some h) a e = head_stands h a e

head_of-stands : (lead : Lead) (x : Option Exprs) (a : Around) (e : List Kind → List Kind) → lead_stands lead a e → HeadStands (head_of lead x) a e
head_of-stands lead_if (Some (single x)) a e h = tt
head_of-stands (lead_elif bs) (Some (single x)) a e h = h
head_of-stands lead_while (Some (single x)) a e h = tt
head_of-stands (lead_for vs) (Some x) a e h = tt
head_of-stands _ _ a e h = tt

tested-keeps : (os : List Outer) (before : Option Statements) (o : Option Head) (k : Kind) → outers_stand os → front_stands before (around os) (heard os) → HeadStands o (around os) (λ rest. heard os (spell_front before rest)) → Keeps (tested os before o k)
tested-keeps os before (Some x) colon h k m = (h, k, m)
tested-keeps os before _ k h l m = tt

then_test-keeps : (os : List Outer) (before : Option Statements) (lead : Lead) (r : Reading) (t : Kind) (o : Option Reading) → state_stands (in_test os before lead r) → KeepsLists o → Keeps (then_test os before lead r t o)
then_test-keeps os before lead r t (Some s) h l = allowed-keeps (fits lead s) (in_test os before lead s) (λ f. (h.0, h.1, h.2, f, l))
then_test-keeps os before lead r t None h l = tested-keeps os before (head_of lead (whole r)) t h.0 h.1 (head_of-stands lead (whole r) (around os) (λ rest. heard os (spell_front before rest)) h.2)

abbrev pub ContinuedStands : Option Continued → Around → (List Kind → List Kind) → Type 0
ContinuedStands None a e = Unit {0}
ContinuedStands (Some (continued b bs)) a e = front_stands b a e × branches_stand bs a (λ rest. e (spell_front b rest))

last_branches-stands : (before : Option Statements) (a : Around) (e : List Kind → List Kind) → front_stands before a e → ContinuedStands (last_branches before) a e
last_branches-stands (Some (statements_one (compound (choose c) b))) a e h = (tt, h)
last_branches-stands (Some (statements_more ss (compound (choose c) b))) a e h = (h.0, h.1)
last_branches-stands _ a e h = tt

elif_at-keeps : (os : List Outer) (o : Option Continued) → outers_stand os → ContinuedStands o (around os) (heard os) → Keeps (elif_at os o)
elif_at-keeps os None h k = tt
elif_at-keeps os (Some (continued b bs)) h k = (h, k.0, k.1, refl, tt)

else_at-keeps : (os : List Outer) (o : Option Continued) → outers_stand os → ContinuedStands o (around os) (heard os) → Keeps (else_at os o)
else_at-keeps os None h k = tt
else_at-keeps os (Some (continued b bs)) h k = (h, k.0, k.1)

def_at-keeps : (os : List Outer) (before : Option Statements) → front_stands before (around os) (heard os) → Keeps (def_at os before)
def_at-keeps [] before h = h
def_at-keeps (o ∷ os) before h = tt

dedent_at-keeps : (os : List Outer) (before : Option Statements) → outers_stand os → front_stands before (around os) (heard os) → Keeps (dedent_at os before)
dedent_at-keeps [] before h k = tt
dedent_at-keeps (o ∷ os) None h k = tt
dedent_at-keeps (outer b hd ∷ os) (Some ss) h k = (h.0, add_statement-stands b (compound hd (indented ss)) (around os) (heard os) h.1 (h.2, k))

end_at-keeps : (os : List Outer) (before : Option Statements) → front_stands before (around os) (heard os) → Keeps (end_at os before)
end_at-keeps [] before h = h
end_at-keeps (o ∷ os) before h = tt

on_line-keeps : (os : List Outer) (before : Option Statements) (t : Kind) → outers_stand os → front_stands before (around os) (heard os) → Keeps (on_line os before t)
on_line-keeps os before if_word h k = (h, k, tt, refl, tt)
on_line-keeps os before elif_word h k = elif_at-keeps os (last_branches before) h (last_branches-stands before _ _ k)
on_line-keeps os before else_word h k = else_at-keeps os (last_branches before) h (last_branches-stands before _ _ k)
on_line-keeps os before while_word h k = (h, k, tt, refl, tt)
on_line-keeps os before for_word h k = (h, k)
on_line-keeps os before def_word h k = def_at-keeps os before k
on_line-keeps os before t.Dedent h k = dedent_at-keeps os before h k
on_line-keeps os before t.End h k = end_at-keeps os before k
on_line-keeps os before t h k = begins-keeps os (own before) t h k

variables_end-keeps : (os : List Outer) (before : Option Statements) (ns : Option Names) → state_stands (in_variables os before ns) → Keeps (variables_end os before ns)
variables_end-keeps os before None h = tt
variables_end-keeps os before (Some ns) h = (h.0, h.1, tt, refl, tt)

on_variables-keeps : (os : List Outer) (before : Option Statements) (ns : Option Names) (k : Kind) → state_stands (in_variables os before ns) → Keeps (on_variables os before ns k)
on_variables-keeps os before ns (t.Name n) h = h
on_variables-keeps os before ns in_word h = variables_end-keeps os before ns h
on_variables-keeps os before ns _ h = tt

on_variable-keeps : (os : List Outer) (before : Option Statements) (ns : Names) (k : Kind) → state_stands (has_variables os before ns) → Keeps (on_variable os before ns k)
on_variable-keeps os before ns comma h = h
on_variable-keeps os before ns in_word h = (h.0, h.1, tt, refl, tt)
on_variable-keeps os before ns _ h = tt

on_else-keeps : (os : List Outer) (before : Option Statements) (bs : Branches) (k : Kind) → state_stands (after_else os before bs) → Keeps (on_else os before bs k)
on_else-keeps os before bs colon h = h
on_else-keeps os before bs _ h = tt

on_def-keeps : (before : Option Statements) (k : Kind) → state_stands (after_def before) → Keeps (on_def before k)
on_def-keeps before (t.Name n) h = h
on_def-keeps before _ h = tt

on_def_name-keeps : (before : Option Statements) (n : List ℕ) (k : Kind) → state_stands (after_def_name before n) → Keeps (on_def_name before n k)
on_def_name-keeps before n open_parenthesis h = (h, tt)
on_def_name-keeps before n _ h = tt

pub params_of-stands : (ns : Option Names) → some_names_new ns (λ rest. rest) → params_new (params_of ns)
params_of-stands None h = tt
params_of-stands (Some ns) h = h

on_params-keeps : (before : Option Statements) (n : List ℕ) (ns : Option Names) (k : Kind) → state_stands (in_params before n ns) → Keeps (on_params before n ns k)
on_params-keeps before n ns (t.Name m) h = allowed-keeps (is_new_name ns m (λ rest. rest)) (has_params before n (add_name ns m)) (λ k. (h.0, add_name-stands ns m (λ rest. rest) h.1 k))
on_params-keeps before n ns close_parenthesis h = (h.0, params_of-stands ns h.1)
on_params-keeps before n ns _ h = tt

on_param-keeps : (before : Option Statements) (n : List ℕ) (ns : Names) (k : Kind) → state_stands (has_params before n ns) → Keeps (on_param before n ns k)
on_param-keeps before n ns comma h = h
on_param-keeps before n ns close_parenthesis h = h
on_param-keeps before n ns _ h = tt

on_params_end-keeps : (before : Option Statements) (n : List ℕ) (ps : Params) (k : Kind) → state_stands (after_params before n ps) → Keeps (on_params_end before n ps k)
on_params_end-keeps before n ps colon h = (tt, h.0, (refl, h.1))
on_params_end-keeps before n ps _ h = tt

on_colon-keeps : (os : List Outer) (o : Outer) (t : Kind) → state_stands (after_colon os o) → Keeps (on_colon os o t)
on_colon-keeps os (outer b hd) t.Newline h = h
on_colon-keeps os (outer b hd) t h = begins-keeps os (behind_head (outer b hd)) t h.0 (h.1, h.2)

on_newline-keeps : (os : List Outer) (o : Outer) (k : Kind) → state_stands (after_newline os o) → Keeps (on_newline os o k)
on_newline-keeps os (outer b hd) t.Indent h = (h, tt)
on_newline-keeps os o _ h = tt

-- the rules on what may be where hold of all that has been read
pub step-keeps : (s : State) (t : Kind) → state_stands s → Keeps (step s t)
step-keeps (line os before) t h = on_line-keeps os before t h.0 h.1
step-keeps (in_simple os at u r) t h = on_simple-keeps os at u r t h.0 h.1 h.2 h.3
step-keeps (after_word os at w) t h = on_word-keeps os at w t h
step-keeps (in_global os at ns) t h = on_global-keeps os at ns t h
step-keeps (has_global os at ns) t h = on_global_name-keeps os at ns t h
step-keeps (in_test os before lead r) t h = then_test-keeps os before lead r t (read r t) h (read-keeps r t h.4)
step-keeps (in_variables os before ns) t h = on_variables-keeps os before ns t h
step-keeps (has_variables os before ns) t h = on_variable-keeps os before ns t h
step-keeps (after_else os before bs) t h = on_else-keeps os before bs t h
step-keeps (after_def before) t h = on_def-keeps before t h
step-keeps (after_def_name before n) t h = on_def_name-keeps before n t h
step-keeps (in_params before n ns) t h = on_params-keeps before n ns t h
step-keeps (has_params before n ns) t h = on_param-keeps before n ns t h
step-keeps (after_params before n ps) t h = on_params_end-keeps before n ps t h
step-keeps (after_colon os o) t h = on_colon-keeps os o t h
step-keeps (after_newline os o) t h = on_newline-keeps os o t h
step-keeps (done c) t h = tt
