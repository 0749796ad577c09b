-- What has been read of a cell is what its last token makes of what was read before.
use Rattle.std.proofs.Common.{◌≡◌, Bool, true, false, IsTrue, if◌then◌else◌, List, [], ◌∷◌, Option, Some, None, refl, ap, ◌∙◌, sym, subst}
use Rattle.py_token.specs.declared.kinds.Kind.{Kind}
use Rattle.py_token.specs.declared.kinds.Kind.TheVariants as t
use Rattle.std.proofs.lemmas.Bool.{false≢true}
use Rattle.py_grammar.specs.Words.{if_word, else_word, elif_word, while_word, for_word, in_word, pass_word, break_word, continue_word, return_word, global_word, del_word, def_word, floor_assign_sign, plus_assign_sign, minus_assign_sign, times_assign_sign, mod_assign_sign, assign_sign, open_parenthesis, close_parenthesis, colon, comma}
use Rattle.py_grammar.specs.Expressions.{Expression, plain, ors_one, ands_one, compared, compares_one, sums_one, products_one, unsigned, compares_more, compares_none, compares_not_none, Compares, Primary, name, index, Elements, elements_one, elements_more, Exprs, single, tuple, tuple_comma}
use Rattle.py_grammar.specs.Readings.{Upper, no_upper, no_lower, Opened, listed, Reading, wants, has, begun, colon_after, read, whole, narrow, reading_stands}
use Rattle.py_grammar.specs.Statements.{Target, to_name, to_item, Places, places_one, places_more, Targets, targets, targets_comma, variables, variables_comma, Augmentation, by_plus, by_minus, by_times, by_floor, by_modulo, names_one, names_more, Word, pass_, break_, continue_, Simple, word, return_, give, declare, delete, assign, augment, show, augmentation_sign, no_params, params, params_comma, Statement, simple, compound, Head, choose, otherwise, while_true, for_each, define, Condition, if_true, else_if, Branches, branches, Block, inline, indented, Statements, statements_one, statements_more, Around, inside, simple_stands, statement_stands, spell_front, front_stands}
use Rattle.py_grammar.specs.States.{Outer, outer, Spot, own, behind_head, Purpose, showing, giving, deleting, assigning, augmenting, Lead, lead_if, lead_elif, lead_while, lead_for, State, line, in_simple, after_word, in_global, has_global, in_test, in_variables, has_variables, after_else, after_def, after_def_name, in_params, has_params, after_params, after_colon, after_newline, done, start, around, heard, spot_around, spot_heard, add_statement, ended, primary_alone, target_of, first_place, more_places, places_of, undivided_targets, divided_targets, place_of, targets_of, is_begun, if_made, if_deleted, head_of, fits, continued, last_branches, if_allowed, then_simple, begins, elif_at, else_at, on_line, ends, assigns, augments, on_simple, is_new_name, tested, then_test, on_colon, step, outers_stand, spot_stands, purpose_stands, lead_stands, state_stands}
use Rattle.py_grammar.proofs.Last.{at_compares, upper_of, core_of, at_expression, closed-back, at_exprs, exprs-back, exprs-stand, single-undivided, Holds, Last, at_start, after, reading-last}
use Rattle.py_grammar.proofs.Keeps.{not-begun, add_statement-stands}

-- what has been read is the first state, or what a token makes of another
pub data Prior (s : State) : Type 0 where
  at_first : s ≡ start → Prior s
  from : (q : State) (t : Kind) → step q t ≡ Some s → state_stands q → Prior s

-- ---- tokens that no expression goes on with

never-newline : (r : Reading) → read r t.Newline ≡ None
never-newline (wants os u w) = refl
never-newline _ = refl

never-assign : (r : Reading) → read r assign_sign ≡ None
never-assign (wants os u w) = refl
never-assign _ = refl

never-augment : (by : Augmentation) (r : Reading) → read r (augmentation_sign by) ≡ None
never-augment by_plus (wants os u w) = refl
never-augment by_plus _ = refl
never-augment by_minus (wants os u w) = refl
never-augment by_minus _ = refl
never-augment by_times (wants os u w) = refl
never-augment by_times _ = refl
never-augment by_floor (wants os u w) = refl
never-augment by_floor _ = refl
never-augment by_modulo (wants os u w) = refl
never-augment by_modulo _ = refl

carried : (os : List Outer) (at : Spot) (u : Purpose) (s r : Reading) (k : Kind) → read s k ≡ Some r → on_simple os at u s k ≡ then_simple os at u (Some r)
carried os at u s r t.Newline h = let n = never-newline s in cc
carried os at u s r assign_sign h = let n = never-assign s in cc
carried os at u s r plus_assign_sign h = let n = never-augment by_plus s in cc
carried os at u s r minus_assign_sign h = let n = never-augment by_minus s in cc
carried os at u s r times_assign_sign h = let n = never-augment by_times s in cc
carried os at u s r floor_assign_sign h = let n = never-augment by_floor s in cc
carried os at u s r mod_assign_sign h = let n = never-augment by_modulo s in cc
carried os at u s r k h = ap (then_simple os at u) h

allowed : (b : Bool) (s : State) → IsTrue b → if_allowed b s ≡ Some s
allowed true s h = refl
allowed false s h = absurd (false≢true h)

then-goes : (os : List Outer) (at : Spot) (u : Purpose) (r : Reading) (a : Around) → purpose_stands u r a → then_simple os at u (Some r) ≡ Some (in_simple os at u r)
then-goes os at showing r a h = refl
then-goes os at giving r a h = refl
then-goes os at deleting r a h = allowed (narrow r) (in_simple os at deleting r) h
then-goes os at (assigning ts) r a h = refl
then-goes os at (augmenting to by) r a h = refl

-- ---- where a simple statement begins

abbrev before_simple : List Outer → Spot → State
before_simple os (own before) = line os before
before_simple os (behind_head o) = after_colon os o

before-stands : (os : List Outer) (at : Spot) → outers_stand os → spot_stands os at → state_stands (before_simple os at)
before-stands os (own before) h k = (h, k)
before-stands os (behind_head (outer b hd)) h k = (h, k.0, k.1)

begins-word : (t : Kind) → ((os : List Outer) (before : Option Statements) → on_line os before t ≡ begins os (own before) t) → ((os : List Outer) (o : Outer) → on_colon os o t ≡ begins os (behind_head o) t) → (os : List Outer) (at : Spot) → step (before_simple os at) t ≡ begins os at t
begins-word t f g os (own before) = f os before
begins-word t f g os (behind_head o) = g os o

begins-showing : (os : List Outer) (at : Spot) (t : Kind) (r : Reading) → read begun t ≡ Some r → begins os at t ≡ Some (in_simple os at showing r)
begins-showing os at pass_word r h = cc
begins-showing os at break_word r h = cc
begins-showing os at continue_word r h = cc
begins-showing os at return_word r h = cc
begins-showing os at global_word r h = cc
begins-showing os at del_word r h = cc
begins-showing os at t r h = ap (then_simple os at showing) h

line-showing : (os : List Outer) (before : Option Statements) (k : Kind) (r : Reading) → read begun k ≡ Some r → on_line os before k ≡ Some (in_simple os (own before) showing r)
line-showing os before if_word r h = cc
line-showing os before elif_word r h = cc
line-showing os before else_word r h = cc
line-showing os before while_word r h = cc
line-showing os before for_word r h = cc
line-showing os before def_word r h = cc
line-showing os before t.Dedent r h = cc
line-showing os before t.End r h = cc
line-showing os before k r h = begins-showing os (own before) k r h

colon-showing : (os : List Outer) (o : Outer) (k : Kind) (r : Reading) → read begun k ≡ Some r → on_colon os o k ≡ Some (in_simple os (behind_head o) showing r)
colon-showing os o t.Newline r h = cc
colon-showing os o k r h = begins-showing os (behind_head o) k r h

before-showing : (os : List Outer) (at : Spot) (t : Kind) (r : Reading) → read begun t ≡ Some r → step (before_simple os at) t ≡ Some (in_simple os at showing r)
before-showing os (own before) t r h = line-showing os before t r h
before-showing os (behind_head o) t r h = colon-showing os o t r h

-- ---- simple statements

abbrev primary_of : Target → Primary
primary_of (to_name n) = name n
primary_of (to_item p a) = index p a

-- a target, seen as an expression
abbrev expression_of_target : Target → Expression
expression_of_target to = plain (ors_one (ands_one (compared (compares_one (sums_one (products_one (unsigned (primary_of to))))))))

target-back : (to : Target) → target_of (primary_alone (expression_of_target to)) ≡ Some to
target-back (to_name n) = refl
target-back (to_item p a) = refl

place-back : (to : Target) → place_of (whole (has [] no_upper no_lower (primary_of to))) ≡ Some to
place-back to = target-back to

abbrev elements_of : Places → Elements
elements_of (places_one to) = elements_one (expression_of_target to)
elements_of (places_more ps to) = elements_more (elements_of ps) (expression_of_target to)

places-back : (ps : Places) → places_of (elements_of ps) ≡ Some ps
places-back (places_one to) = ap first_place (target-back to)
places-back (places_more ps to) = ap (λ x. more_places x (target_of (primary_alone (expression_of_target to)))) (places-back ps) ∙ ap (more_places (Some ps)) (target-back to)

-- what has been read when targets have
abbrev reading_of : Targets → Reading
reading_of (targets (places_one to)) = has [] no_upper no_lower (primary_of to)
reading_of (targets (places_more ps to)) = has (listed (elements_of ps) ∷ []) no_upper no_lower (primary_of to)
reading_of (targets_comma ps) = wants (listed (elements_of ps) ∷ []) no_upper no_lower

targets-back : (ts : Targets) → targets_of (whole (reading_of ts)) ≡ Some ts
targets-back (targets (places_one to)) = ap (λ x. undivided_targets (first_place x)) (target-back to)
targets-back (targets (places_more ps to)) = ap undivided_targets (places-back (places_more ps to))
targets-back (targets_comma ps) = ap divided_targets (places-back ps)

targets-begun : (ts : Targets) → reading_of ts ≡ begun → ⊥
targets-begun (targets (places_one to)) h = cc
targets-begun (targets (places_more ps to)) h = cc
targets-begun (targets_comma ps) h = cc

targets-stand : (ts : Targets) → reading_stands (reading_of ts)
targets-stand (targets (places_one to)) = tt
targets-stand (targets (places_more ps to)) = (refl, tt)
targets-stand (targets_comma ps) = (refl, tt)

augment-back : (os : List Outer) (at : Spot) (by : Augmentation) (r : Reading) (to : Target) → place_of (whole r) ≡ Some to → on_simple os at showing r (augmentation_sign by) ≡ Some (in_simple os at (augmenting to by) begun)
augment-back os at by_plus r to h = ap (augments os at by_plus showing) h
augment-back os at by_minus r to h = ap (augments os at by_minus showing) h
augment-back os at by_times r to h = ap (augments os at by_times showing) h
augment-back os at by_floor r to h = ap (augments os at by_floor showing) h
augment-back os at by_modulo r to h = ap (augments os at by_modulo showing) h

has-not-begun : (p : Primary) → has [] no_upper no_lower p ≡ begun → ⊥
has-not-begun p h = cc

begun-prior : (os : List Outer) (at : Spot) (u : Purpose) → outers_stand os → spot_stands os at → purpose_stands u begun (spot_around os at) → Prior (in_simple os at u begun)
begun-prior os at showing h k m = absurd (m refl)
begun-prior os at giving h k m = from (before_simple os at) return_word (begins-word return_word (λ os b. refl) (λ os o. refl) os at ∙ allowed (spot_around os at).in_function (in_simple os at giving begun) m) (before-stands os at h k)
begun-prior os at deleting h k m = from (before_simple os at) del_word (begins-word del_word (λ os b. refl) (λ os o. refl) os at) (before-stands os at h k)
begun-prior os at (assigning ts) h k m = from (in_simple os at showing (reading_of ts)) assign_sign (ap (assigns os at showing) (targets-back ts)) (h, k, targets-begun ts, targets-stand ts)
begun-prior os at (augmenting to by) h k m = from (in_simple os at showing (has [] no_upper no_lower (primary_of to))) (augmentation_sign by) (augment-back os at by (has [] no_upper no_lower (primary_of to)) to (place-back to)) (h, k, has-not-begun (primary_of to), tt)

shown-prior : (os : List Outer) (at : Spot) (s r : Reading) (t : Kind) → Last s → read s t ≡ Some r → outers_stand os → spot_stands os at → reading_stands s → Prior (in_simple os at showing r)
shown-prior os at s r t (at_start e) g h k l = from (before_simple os at) t (before-showing os at t r (ap (λ x. read x t) (sym e) ∙ g)) (before-stands os at h k)
shown-prior os at s r t (after q k2 f n) g h k l = from (in_simple os at showing s) t (carried os at showing s r t g) (h, k, not-begun q k2 s f, l)

simple-prior : (os : List Outer) (at : Spot) (u : Purpose) (r : Reading) → Last r → outers_stand os → spot_stands os at → purpose_stands u r (spot_around os at) → Prior (in_simple os at u r)
simple-prior os at u r (at_start e) h k m = subst (λ x. Prior (in_simple os at u x)) (sym e) (begun-prior os at u h k (subst (λ x. purpose_stands u x (spot_around os at)) e m))
simple-prior os at showing r (after s t g n) h k m = shown-prior os at s r t (reading-last s n.stands) g h k n.stands
simple-prior os at giving r (after s t g n) h k m = from (in_simple os at giving s) t (carried os at giving s r t g) (h, k, m, n.stands)
simple-prior os at deleting r (after s t g n) h k m = from (in_simple os at deleting s) t (carried os at deleting s r t g ∙ then-goes os at deleting r (spot_around os at) m) (h, k, n.narrows m, n.stands)
simple-prior os at (assigning ts) r (after s t g n) h k m = from (in_simple os at (assigning ts) s) t (carried os at (assigning ts) s r t g) (h, k, tt, n.stands)
simple-prior os at (augmenting to by) r (after s t g n) h k m = from (in_simple os at (augmenting to by) s) t (carried os at (augmenting to by) s r t g) (h, k, tt, n.stands)

compares-not-begun : (c : Compares) (os : List Opened) (u : Upper) → is_begun (at_compares os u c) ≡ false
compares-not-begun (compares_one b) os u = refl
compares-not-begun (compares_more c r b) os u = refl
compares-not-begun (compares_none c) os u = refl
compares-not-begun (compares_not_none c) os u = refl

exprs-no-start : (a : Exprs) → is_begun (at_exprs a) ≡ false
exprs-no-start (single a) = compares-not-begun (core_of a) [] (upper_of [] a)
exprs-no-start (tuple es a) = compares-not-begun (core_of a) (listed es ∷ []) (upper_of [] a)
exprs-no-start (tuple_comma es) = refl

exprs-not-begun : (a : Exprs) → at_exprs a ≡ begun → ⊥
exprs-not-begun a h = let k = exprs-back a in let e : whole (at_exprs a) ≡ None = ap whole h in cc

deleted-back : (os : List Outer) (at : Spot) (to : Target) → step (in_simple os at deleting (has [] no_upper no_lower (primary_of to))) t.Newline ≡ Some (ended os at (delete to))
deleted-back os at to = ap (λ x. ends os at (if_deleted x)) (place-back to)

ended-prior : (s : Simple) (os : List Outer) (at : Spot) → outers_stand os → spot_stands os at → simple_stands s (spot_around os at) (spot_heard os at) → Prior (ended os at s)
ended-prior (word w) os at h k m = from (after_word os at w) t.Newline refl (h, k, m)
ended-prior return_ os at h k m = from (in_simple os at giving begun) t.Newline refl (h, k, m, tt)
ended-prior (give a) os at h k m =
    from (in_simple os at giving (at_exprs a)) t.Newline
    (ap (λ b. ends os at (if b then Some return_ else if_made give (whole (at_exprs a)))) (exprs-no-start a) ∙ ap (λ o. ends os at (if_made give o)) (exprs-back a))
    (h, k, m, exprs-stand a)
ended-prior (declare ns) os at h k m = from (has_global os at ns) t.Newline refl (h, k, m.0, m.1)
ended-prior (delete to) os at h k m = from (in_simple os at deleting (has [] no_upper no_lower (primary_of to))) t.Newline (deleted-back os at to) (h, k, refl, tt)
ended-prior (assign ts a) os at h k m = from (in_simple os at (assigning ts) (at_exprs a)) t.Newline (ap (λ o. ends os at (if_made (assign ts) o)) (exprs-back a)) (h, k, tt, exprs-stand a)
ended-prior (augment to by a) os at h k m = from (in_simple os at (augmenting to by) (at_exprs a)) t.Newline (ap (λ o. ends os at (if_made (augment to by) o)) (exprs-back a)) (h, k, tt, exprs-stand a)
ended-prior (show a) os at h k m = from (in_simple os at showing (at_exprs a)) t.Newline (ap (λ o. ends os at (if_made show o)) (exprs-back a)) (h, k, exprs-not-begun a, exprs-stand a)

-- ---- lines and heads

statement-prior : (s : Statement) (os : List Outer) (before : Option Statements) → outers_stand os → front_stands before (around os) (heard os) → statement_stands s (around os) (λ rest. heard os (spell_front before rest)) → Prior (line os (add_statement before s))
statement-prior (simple s) os before h k m = ended-prior s os (own before) h k m
statement-prior (compound hd (inline s)) os before h k m = ended-prior s os (behind_head (outer before hd)) h (k, m.0) m.1
statement-prior (compound hd (indented ss)) os before h k m = from (line (outer before hd ∷ os) (Some ss)) t.Dedent refl ((h, k, m.0), m.1)

line-prior : (os : List Outer) (before : Option Statements) → outers_stand os → front_stands before (around os) (heard os) → Prior (line os before)
line-prior [] None h k = at_first refl
line-prior (outer b hd ∷ os) None h k = from (after_newline os (outer b hd)) t.Indent refl h
line-prior os (Some (statements_one s)) h k = statement-prior s os None h tt k
line-prior os (Some (statements_more ss s)) h k = statement-prior s os (Some ss) h k.0 k.1

branches-back : (before : Option Statements) (c : Condition) (b : Block) → last_branches (add_statement before (compound (choose c) b)) ≡ Some (continued before (branches c b))
branches-back None c b = refl
branches-back (Some ss) c b = refl

lead-prior : (lead : Lead) (os : List Outer) (before : Option Statements) → outers_stand os → front_stands before (around os) (heard os) → lead_stands lead (around os) (λ rest. heard os (spell_front before rest)) → Prior (in_test os before lead begun)
lead-prior lead_if os before h k m = from (line os before) if_word refl (h, k)
lead-prior (lead_elif (branches c b)) os before h k m =
    from (line os (add_statement before (compound (choose c) b))) elif_word (ap (elif_at os) (branches-back before c b)) (h, add_statement-stands before (compound (choose c) b) (around os) (heard os) k m)
lead-prior lead_while os before h k m = from (line os before) while_word refl (h, k)
lead-prior (lead_for (variables ns)) os before h k m = from (has_variables os before ns) in_word refl (h, k)
lead-prior (lead_for (variables_comma ns)) os before h k m = from (in_variables os before (Some ns)) in_word refl (h, k)

fits-before : (lead : Lead) (s r : Reading) → Holds s r → IsTrue (fits lead r) → IsTrue (fits lead s)
fits-before lead_if s r n h = n.undivides h
fits-before (lead_elif bs) s r n h = n.undivides h
fits-before lead_while s r n h = n.undivides h
fits-before (lead_for vs) s r n h = refl

-- a `:` outside all brackets goes on with no expression
colon-refused : (a : Exprs) → read (at_exprs a) colon ≡ None
colon-refused (single a) = closed-back a [] colon colon_after (λ os u w p. refl) (λ u c. refl)
colon-refused (tuple es a) = closed-back a (listed es ∷ []) colon colon_after (λ os u w p. refl) (λ u c. refl)
colon-refused (tuple_comma es) = refl

test-prior : (os : List Outer) (before : Option Statements) (lead : Lead) (r : Reading) → Last r → state_stands (in_test os before lead r) → Prior (in_test os before lead r)
test-prior os before lead r (at_start e) h = subst (λ x. Prior (in_test os before lead x)) (sym e) (lead-prior lead os before h.0 h.1 h.2)
test-prior os before lead r (after s t g n) h = from (in_test os before lead s) t (ap (then_test os before lead s t) g ∙ allowed (fits lead r) (in_test os before lead r) h.3) (h.0, h.1, h.2, fits-before lead s r n h.3, n.stands)

tested-back : (os : List Outer) (before : Option Statements) (lead : Lead) (a : Exprs) (hd : Head) → head_of lead (Some a) ≡ Some hd → step (in_test os before lead (at_exprs a)) colon ≡ Some (after_colon os (outer before hd))
tested-back os before lead a hd e = ap (then_test os before lead (at_exprs a) colon) (colon-refused a) ∙ ap (λ o. tested os before (head_of lead o) colon) (exprs-back a) ∙ ap (λ o. tested os before o colon) e

inside-not-top : (h : Head) (a : Around) → IsTrue (inside h a).top → ⊥
inside-not-top (choose c) a h = false≢true h
inside-not-top (otherwise bs) a h = false≢true h
inside-not-top (while_true e) a h = false≢true h
inside-not-top (for_each vs e) a h = false≢true h
inside-not-top (define n ps) a h = false≢true h

colon-prior : (hd : Head) (os : List Outer) (before : Option Statements) → state_stands (after_colon os (outer before hd)) → Prior (after_colon os (outer before hd))
colon-prior (choose (if_true a)) os before h = from (in_test os before lead_if (at_expression [] a)) colon (tested-back os before lead_if (single a) _ refl) (h.0, h.1, h.2, single-undivided a, exprs-stand (single a))
colon-prior (choose (else_if bs a)) os before h = from (in_test os before (lead_elif bs) (at_expression [] a)) colon (tested-back os before (lead_elif bs) (single a) _ refl) (h.0, h.1, h.2, single-undivided a, exprs-stand (single a))
colon-prior (otherwise bs) os before h = from (after_else os before bs) colon refl h
colon-prior (while_true a) os before h = from (in_test os before lead_while (at_expression [] a)) colon (tested-back os before lead_while (single a) _ refl) (h.0, h.1, h.2, single-undivided a, exprs-stand (single a))
colon-prior (for_each vs a) os before h = from (in_test os before (lead_for vs) (at_exprs a)) colon (tested-back os before (lead_for vs) a _ refl) (h.0, h.1, h.2, refl, exprs-stand a)
colon-prior (define n ps) [] before h = from (after_params before n ps) colon refl (h.1, h.2.1)
colon-prior (define n ps) (outer b hd ∷ os) before h = absurd (inside-not-top hd (around os) h.2.0)

newline-prior : (os : List Outer) (o : Outer) → state_stands (after_newline os o) → Prior (after_newline os o)
newline-prior os (outer b hd) h = from (after_colon os (outer b hd)) t.Newline refl h

word-prior : (w : Word) (os : List Outer) (at : Spot) → state_stands (after_word os at w) → Prior (after_word os at w)
word-prior pass_ os at h = from (before_simple os at) pass_word (begins-word pass_word (λ os b. refl) (λ os o. refl) os at) (before-stands os at h.0 h.1)
word-prior break_ os at h = from (before_simple os at) break_word (begins-word break_word (λ os b. refl) (λ os o. refl) os at ∙ allowed (spot_around os at).in_loop (after_word os at break_) h.2) (before-stands os at h.0 h.1)
word-prior continue_ os at h = from (before_simple os at) continue_word (begins-word continue_word (λ os b. refl) (λ os o. refl) os at ∙ allowed (spot_around os at).in_loop (after_word os at continue_) h.2) (before-stands os at h.0 h.1)

else-prior : (bs : Branches) (os : List Outer) (before : Option Statements) → state_stands (after_else os before bs) → Prior (after_else os before bs)
else-prior (branches c b) os before h = from (line os (add_statement before (compound (choose c) b))) else_word (ap (else_at os) (branches-back before c b)) (h.0, add_statement-stands before (compound (choose c) b) (around os) (heard os) h.1 h.2)

-- each state but the first is what one token makes of another
pub state-prior : (s : State) → state_stands s → Prior s
state-prior (line os before) h = line-prior os before h.0 h.1
state-prior (in_simple os at u r) h = simple-prior os at u r (reading-last r h.3) h.0 h.1 h.2
state-prior (after_word os at w) h = word-prior w os at h
state-prior (in_global os at None) h = from (before_simple os at) global_word (begins-word global_word (λ os b. refl) (λ os o. refl) os at ∙ allowed (spot_around os at).in_function (in_global os at None) h.2) (before-stands os at h.0 h.1)
state-prior (in_global os at (Some ns)) h = from (has_global os at ns) comma refl h
state-prior (has_global os at (names_one n)) h = from (in_global os at None) (t.Name n) (allowed (is_new_name None n (spot_heard os at)) (has_global os at (names_one n)) h.3) (h.0, h.1, h.2, tt)
state-prior (has_global os at (names_more ns n)) h = from (in_global os at (Some ns)) (t.Name n) (allowed (is_new_name (Some ns) n (spot_heard os at)) (has_global os at (names_more ns n)) h.3.1) (h.0, h.1, h.2, h.3.0)
state-prior (in_test os before lead r) h = test-prior os before lead r (reading-last r h.4) h
state-prior (in_variables os before None) h = from (line os before) for_word refl h
state-prior (in_variables os before (Some ns)) h = from (has_variables os before ns) comma refl h
state-prior (has_variables os before (names_one n)) h = from (in_variables os before None) (t.Name n) refl h
state-prior (has_variables os before (names_more ns n)) h = from (in_variables os before (Some ns)) (t.Name n) refl h
state-prior (after_else os before bs) h = else-prior bs os before h
state-prior (after_def before) h = from (line [] before) def_word refl (tt, h)
state-prior (after_def_name before n) h = from (after_def before) (t.Name n) refl h
state-prior (in_params before n None) h = from (after_def_name before n) open_parenthesis refl h.0
state-prior (in_params before n (Some ns)) h = from (has_params before n ns) comma refl h
state-prior (has_params before n (names_one m)) h = from (in_params before n None) (t.Name m) (allowed (is_new_name None m (λ rest. rest)) (has_params before n (names_one m)) h.1) (h.0, tt)
state-prior (has_params before n (names_more ns m)) h = from (in_params before n (Some ns)) (t.Name m) (allowed (is_new_name (Some ns) m (λ rest. rest)) (has_params before n (names_more ns m)) h.1.1) (h.0, h.1.0)
state-prior (after_params before n no_params) h = from (in_params before n None) close_parenthesis refl (h.0, tt)
state-prior (after_params before n (params ns)) h = from (has_params before n ns) close_parenthesis refl h
state-prior (after_params before n (params_comma ns)) h = from (in_params before n (Some ns)) close_parenthesis refl h
state-prior (after_colon os (outer before hd)) h = colon-prior hd os before h
state-prior (after_newline os o) h = newline-prior os o h
state-prior (done c) h = from (line [] c) t.End refl (tt, h)
