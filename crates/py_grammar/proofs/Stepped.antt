-- One more token of a cell is one more token of what it spells.
use Rattle.std.proofs.Common.{◌≡◌, ℕ, Bool, true, false, IsTrue, if◌then◌else◌, List, [], ◌∷◌, Option, Some, None, refl, ap, ◌∙◌, sym}
use Rattle.py_token.specs.declared.kinds.Kind.{Kind}
use Rattle.py_token.specs.declared.kinds.Kind.TheVariants as t
use Rattle.py_grammar.specs.Words.{if_word, else_word, elif_word, while_word, for_word, in_word, pass_word, break_word, continue_word, return_word, global_word, del_word, def_word, floor_assign_sign, plus_assign_sign, minus_assign_sign, times_assign_sign, mod_assign_sign, assign_sign, open_parenthesis, close_parenthesis, colon, comma}
use Rattle.py_grammar.specs.Expressions.{Expression, plain, ors_one, ands_one, compared, compares_one, sums_one, products_one, unsigned, Primary, name, index, Elements, elements_one, elements_more, Exprs, single, tuple, tuple_comma, spell_expression, spell_primary, spell_elements, spell_exprs}
use Rattle.py_grammar.specs.Readings.{Reading, begun, read, whole, narrow}
use Rattle.py_grammar.specs.Open.{spell_reading}
use Rattle.py_grammar.specs.Statements.{Target, Places, Targets, Head, Augmentation, by_plus, by_minus, by_times, by_floor, by_modulo, Names, Word, Simple, word, return_, give, declare, assign, augment, show, spell_target, spell_places, spell_targets, augmentation_sign, spell_names, spell_simple, Params, Statement, simple, compound, choose, Branches, Block, inline, indented, Statements, statements_one, statements_more, spell_params, spell_statement, spell_head, spell_branches, spell_block, spell_front}
use Rattle.py_grammar.specs.States.{Outer, outer, Spot, own, behind_head, Purpose, showing, giving, deleting, assigning, augmenting, Lead, lead_if, lead_elif, lead_while, lead_for, State, line, in_simple, after_word, in_global, has_global, in_test, in_variables, has_variables, after_else, after_def, after_def_name, in_params, has_params, after_params, after_colon, after_newline, done, spot_around, spot_heard, add_statement, add_name, close, ended, primary_alone, target_of, first_place, more_places, places_of, undivided_targets, divided_targets, targets_in, place_of, targets_of, is_begun, if_made, if_deleted, finished, head_of, fits, Continued, continued, last_branches, if_allowed, then_simple, begins, elif_at, else_at, def_at, dedent_at, end_at, on_line, ends, assigns, augments, on_simple, on_word, spell_names_before, is_new_name, on_global, on_global_name, tested, then_test, variables_end, on_variables, on_variable, on_else, on_def, on_def_name, params_of, on_params, on_param, on_params_end, on_colon, on_newline, step, spell_outer, spell_outers, spell_spot, spell_purpose, spell_lead, spell_state}
use Rattle.py_grammar.proofs.Spelled.{Adds, SpellsAll, read-adds, whole-spelled}
use Rattle.py_grammar.proofs.Bare.{begun_is}

abbrev pub AddsToCell : (List Kind → List Kind) → Kind → Option State → Type 0
AddsToCell before t None = Unit {0}
AddsToCell before t (Some s) = (rest : List Kind) → spell_state s rest ≡ before (t ∷ rest)

pub add_statement-spelled : (b : Option Statements) (s : Statement) (rest : List Kind) → spell_front (add_statement b s) rest ≡ spell_front b (spell_statement s rest)
add_statement-spelled None s rest = refl
add_statement-spelled (Some ss) s rest = refl

pub close-spelled : (o : Outer) (b : Block) (rest : List Kind) → spell_front (close o b) rest ≡ spell_outer o (spell_block b rest)
close-spelled (outer before h) b rest = add_statement-spelled before (compound h b) rest

pub ended-spelled : (os : List Outer) (at : Spot) (s : Simple) (rest : List Kind) → spell_state (ended os at s) rest ≡ spell_outers os (spell_spot at (spell_simple s (t.Newline ∷ rest)))
ended-spelled os (own before) s rest = ap (spell_outers os) (add_statement-spelled before (simple s) rest)
ended-spelled os (behind_head o) s rest = ap (spell_outers os) (close-spelled o (inline s) rest)

pub add_name-spelled : (ns : Option Names) (n : List ℕ) (rest : List Kind) → spell_names (add_name ns n) rest ≡ spell_names_before ns (t.Name n ∷ rest)
add_name-spelled None n rest = refl
add_name-spelled (Some ns) n rest = refl

pub params_of-spelled : (ns : Option Names) (rest : List Kind) → spell_params (params_of ns) rest ≡ spell_names_before ns rest
params_of-spelled None rest = refl
params_of-spelled (Some ns) rest = refl

allowed-added : (b : Bool) (s : State) (f : List Kind → List Kind) (t : Kind) → AddsToCell f t (Some s) → AddsToCell f t (if_allowed b s)
allowed-added true s f t h = h
allowed-added false s f t h = tt

-- ---- a simple statement

-- it spells so, if there is one
abbrev pub SpellsSimple : Option Simple → (List Kind → List Kind) → Type 0
SpellsSimple None f = Unit {0}
SpellsSimple (Some s) f = (rest : List Kind) → spell_simple s rest ≡ f rest

abbrev pub SpellsPlace : Option Target → (List Kind → List Kind) → Type 0
SpellsPlace None f = Unit {0}
SpellsPlace (Some to) f = (rest : List Kind) → spell_target to rest ≡ f rest

abbrev SpellsPrimary : Option Primary → (List Kind → List Kind) → Type 0
SpellsPrimary None f = Unit {0}
SpellsPrimary (Some p) f = (rest : List Kind) → spell_primary p rest ≡ f rest

primary_alone-spelled : (a : Expression) → SpellsPrimary (primary_alone a) (spell_expression a)
primary_alone-spelled (plain (ors_one (ands_one (compared (compares_one (sums_one (products_one (unsigned p)))))))) = λ rest. refl
primary_alone-spelled _ = tt

target_of-spelled : (p : Option Primary) (f : List Kind → List Kind) → SpellsPrimary p f → SpellsPlace (target_of p) f
target_of-spelled (Some (name n)) f h = h
target_of-spelled (Some (index p a)) f h = h
target_of-spelled _ f h = tt

pub expression-target : (a : Expression) → SpellsPlace (target_of (primary_alone a)) (spell_expression a)
expression-target a = target_of-spelled (primary_alone a) (spell_expression a) (primary_alone-spelled a)

abbrev SpellsPlaces : Option Places → (List Kind → List Kind) → Type 0
SpellsPlaces None f = Unit {0}
SpellsPlaces (Some ps) f = (rest : List Kind) → spell_places ps rest ≡ f rest

abbrev pub SpellsTargets : Option Targets → (List Kind → List Kind) → Type 0
SpellsTargets None f = Unit {0}
SpellsTargets (Some ts) f = (rest : List Kind) → spell_targets ts rest ≡ f rest

first_place-spelled : (to : Option Target) (f : List Kind → List Kind) → SpellsPlace to f → SpellsPlaces (first_place to) f
first_place-spelled None f h = tt
first_place-spelled (Some to) f h = h

more_places-spelled : (ps : Option Places) (to : Option Target) (f g : List Kind → List Kind) → SpellsPlaces ps f → SpellsPlace to g → SpellsPlaces (more_places ps to) (λ rest. f (comma ∷ g rest))
more_places-spelled (Some ps) (Some to) f g h k = λ rest. h (comma ∷ spell_target to rest) ∙ ap (λ x. f (comma ∷ x)) (k rest)
more_places-spelled None to f g h k = tt
more_places-spelled (Some ps) None f g h k = tt

places_of-spelled : (es : Elements) → SpellsPlaces (places_of es) (spell_elements es)
places_of-spelled (elements_one a) = first_place-spelled (target_of (primary_alone a)) (spell_expression a) (expression-target a)
places_of-spelled (elements_more es a) = more_places-spelled (places_of es) (target_of (primary_alone a)) (spell_elements es) (spell_expression a) (places_of-spelled es) (expression-target a)

undivided-spelled : (ps : Option Places) (f : List Kind → List Kind) → SpellsPlaces ps f → SpellsTargets (undivided_targets ps) f
undivided-spelled None f h = tt
undivided-spelled (Some ps) f h = h

divided-spelled : (ps : Option Places) (f : List Kind → List Kind) → SpellsPlaces ps f → SpellsTargets (divided_targets ps) (λ rest. f (comma ∷ rest))
divided-spelled None f h = tt
divided-spelled (Some ps) f h = λ rest. h (comma ∷ rest)

targets_in-spelled : (a : Exprs) → SpellsTargets (targets_in a) (spell_exprs a)
targets_in-spelled (single a) = undivided-spelled (first_place (target_of (primary_alone a))) (spell_expression a) (first_place-spelled (target_of (primary_alone a)) (spell_expression a) (expression-target a))
targets_in-spelled (tuple es a) = undivided-spelled (more_places (places_of es) (target_of (primary_alone a))) (λ rest. spell_elements es (comma ∷ spell_expression a rest))
    (more_places-spelled (places_of es) (target_of (primary_alone a)) (spell_elements es) (spell_expression a) (places_of-spelled es) (expression-target a))
targets_in-spelled (tuple_comma es) = divided-spelled (places_of es) (spell_elements es) (places_of-spelled es)

targets-same : (ts : Option Targets) (f g : List Kind → List Kind) → ((rest : List Kind) → f rest ≡ g rest) → SpellsTargets ts f → SpellsTargets ts g
targets-same None f g e h = tt
targets-same (Some ts) f g e h = λ rest. h rest ∙ e rest

pub targets_of-spelled : (a : Option Exprs) (f : List Kind → List Kind) → SpellsAll a f → SpellsTargets (targets_of a) f
targets_of-spelled None f h = tt
targets_of-spelled (Some a) f h = targets-same (targets_in a) (spell_exprs a) f h (targets_in-spelled a)

place-same : (to : Option Target) (f g : List Kind → List Kind) → ((rest : List Kind) → f rest ≡ g rest) → SpellsPlace to f → SpellsPlace to g
place-same None f g e h = tt
place-same (Some to) f g e h = λ rest. h rest ∙ e rest

pub place_of-spelled : (a : Option Exprs) (f : List Kind → List Kind) → SpellsAll a f → SpellsPlace (place_of a) f
place_of-spelled (Some (single a)) f h = place-same (target_of (primary_alone a)) (spell_expression a) f h (expression-target a)
place_of-spelled _ f h = tt

made-spelled : (f : Exprs → Simple) (g h : List Kind → List Kind) (a : Option Exprs) → ((e : Exprs) (rest : List Kind) → spell_simple (f e) rest ≡ g (spell_exprs e rest)) → SpellsAll a h → SpellsSimple (if_made f a) (λ rest. g (h rest))
made-spelled f g h None e k = tt
made-spelled f g h (Some a) e k = λ rest. e a rest ∙ ap g (k rest)

deleted-spelled : (to : Option Target) (h : List Kind → List Kind) → SpellsPlace to h → SpellsSimple (if_deleted to) (λ rest. del_word ∷ h rest)
deleted-spelled None h k = tt
deleted-spelled (Some to) h k = λ rest. ap (◌∷◌ del_word) (k rest)

left-spelled : (r : Reading) (b : Bool) → (IsTrue b → r ≡ begun) → SpellsSimple (if b then Some return_ else if_made give (whole r)) (λ rest. return_word ∷ spell_reading r rest)
left-spelled r true h = λ rest. ap (λ x. return_word ∷ spell_reading x rest) (sym (h refl))
left-spelled r false h = made-spelled give (λ rest. return_word ∷ rest) (spell_reading r) (whole r) (λ e rest. refl) (whole-spelled r)

pub finished-spelled : (u : Purpose) (r : Reading) → SpellsSimple (finished u r) (λ rest. spell_purpose u (spell_reading r rest))
finished-spelled showing r = made-spelled show (λ rest. rest) (spell_reading r) (whole r) (λ e rest. refl) (whole-spelled r)
finished-spelled giving r = left-spelled r (is_begun r) (begun_is r)
finished-spelled deleting r = deleted-spelled (place_of (whole r)) (spell_reading r) (place_of-spelled (whole r) (spell_reading r) (whole-spelled r))
finished-spelled (assigning ts) r = made-spelled (assign ts) (spell_purpose (assigning ts)) (spell_reading r) (whole r) (λ e rest. refl) (whole-spelled r)
finished-spelled (augmenting to by) r = made-spelled (augment to by) (spell_purpose (augmenting to by)) (spell_reading r) (whole r) (λ e rest. refl) (whole-spelled r)

ends-added : (os : List Outer) (at : Spot) (s : Option Simple) (f : List Kind → List Kind) → SpellsSimple s f → AddsToCell (λ rest. spell_outers os (spell_spot at (f rest))) t.Newline (ends os at s)
ends-added os at None f h = tt
ends-added os at (Some s) f h = λ rest. ended-spelled os at s rest ∙ ap (λ x. spell_outers os (spell_spot at x)) (h (t.Newline ∷ rest))

assigns-added : (os : List Outer) (at : Spot) (u : Purpose) (ts : Option Targets) (f : List Kind → List Kind) → SpellsTargets ts f → AddsToCell (λ rest. spell_outers os (spell_spot at (spell_purpose u (f rest)))) assign_sign (assigns os at u ts)
assigns-added os at showing (Some ts) f h = λ rest. ap (λ x. spell_outers os (spell_spot at x)) (h (assign_sign ∷ rest))
assigns-added os at _ _ f h = tt

augments-added : (os : List Outer) (at : Spot) (by : Augmentation) (u : Purpose) (to : Option Target) (f : List Kind → List Kind) → SpellsPlace to f → AddsToCell (λ rest. spell_outers os (spell_spot at (spell_purpose u (f rest)))) (augmentation_sign by) (augments os at by u to)
augments-added os at by showing (Some to) f h = λ rest. ap (λ x. spell_outers os (spell_spot at x)) (h (augmentation_sign by ∷ rest))
augments-added os at by _ _ f h = tt

then_simple-added : (os : List Outer) (at : Spot) (u : Purpose) (f : List Kind → List Kind) (t : Kind) (r : Option Reading) → Adds f t r → AddsToCell (λ rest. spell_outers os (spell_spot at (spell_purpose u (f rest)))) t (then_simple os at u r)
then_simple-added os at u f t None h = tt
then_simple-added os at deleting f t (Some r) h = allowed-added (narrow r) (in_simple os at deleting r) (λ rest. spell_outers os (spell_spot at (del_word ∷ f rest))) t (λ rest. ap (λ x. spell_outers os (spell_spot at (del_word ∷ x))) (h rest))
then_simple-added os at showing f t (Some r) h = λ rest. ap (λ x. spell_outers os (spell_spot at x)) (h rest)
then_simple-added os at giving f t (Some r) h = λ rest. ap (λ x. spell_outers os (spell_spot at (return_word ∷ x))) (h rest)
then_simple-added os at (assigning ts) f t (Some r) h = λ rest. ap (λ x. spell_outers os (spell_spot at (spell_purpose (assigning ts) x))) (h rest)
then_simple-added os at (augmenting to by) f t (Some r) h = λ rest. ap (λ x. spell_outers os (spell_spot at (spell_purpose (augmenting to by) x))) (h rest)

begins-added : (os : List Outer) (at : Spot) (t : Kind) → AddsToCell (λ rest. spell_outers os (spell_spot at rest)) t (begins os at t)
begins-added os at pass_word = λ rest. refl
begins-added os at break_word = allowed-added (spot_around os at).in_loop _ (λ rest. spell_outers os (spell_spot at rest)) break_word (λ rest. refl)
begins-added os at continue_word = allowed-added (spot_around os at).in_loop _ (λ rest. spell_outers os (spell_spot at rest)) continue_word (λ rest. refl)
begins-added os at return_word = allowed-added (spot_around os at).in_function _ (λ rest. spell_outers os (spell_spot at rest)) return_word (λ rest. refl)
begins-added os at global_word = allowed-added (spot_around os at).in_function _ (λ rest. spell_outers os (spell_spot at rest)) global_word (λ rest. refl)
begins-added os at del_word = λ rest. refl
begins-added os at t = then_simple-added os at showing (λ rest. rest) t (read begun t) (read-adds begun t)

on_simple-added : (os : List Outer) (at : Spot) (u : Purpose) (r : Reading) (t : Kind) → AddsToCell (λ rest. spell_outers os (spell_spot at (spell_purpose u (spell_reading r rest)))) t (on_simple os at u r t)
on_simple-added os at u r t.Newline = ends-added os at (finished u r) (λ rest. spell_purpose u (spell_reading r rest)) (finished-spelled u r)
on_simple-added os at u r assign_sign = assigns-added os at u (targets_of (whole r)) (spell_reading r) (targets_of-spelled (whole r) (spell_reading r) (whole-spelled r))
on_simple-added os at u r plus_assign_sign = augments-added os at by_plus u (place_of (whole r)) (spell_reading r) (place_of-spelled (whole r) (spell_reading r) (whole-spelled r))
on_simple-added os at u r minus_assign_sign = augments-added os at by_minus u (place_of (whole r)) (spell_reading r) (place_of-spelled (whole r) (spell_reading r) (whole-spelled r))
on_simple-added os at u r times_assign_sign = augments-added os at by_times u (place_of (whole r)) (spell_reading r) (place_of-spelled (whole r) (spell_reading r) (whole-spelled r))
on_simple-added os at u r floor_assign_sign = augments-added os at by_floor u (place_of (whole r)) (spell_reading r) (place_of-spelled (whole r) (spell_reading r) (whole-spelled r))
on_simple-added os at u r mod_assign_sign = augments-added os at by_modulo u (place_of (whole r)) (spell_reading r) (place_of-spelled (whole r) (spell_reading r) (whole-spelled r))
on_simple-added os at u r t = then_simple-added os at u (spell_reading r) t (read r t) (read-adds r t)

on_word-added : (os : List Outer) (at : Spot) (w : Word) (k : Kind) → AddsToCell (spell_state (after_word os at w)) k (on_word os at w k)
on_word-added os at w t.Newline = λ rest. ended-spelled os at (word w) rest
on_word-added os at w _ = tt

on_global-added : (os : List Outer) (at : Spot) (ns : Option Names) (k : Kind) → AddsToCell (spell_state (in_global os at ns)) k (on_global os at ns k)
on_global-added os at ns (t.Name n) = allowed-added (is_new_name ns n (spot_heard os at)) _ (spell_state (in_global os at ns)) (t.Name n) (λ rest. ap (λ x. spell_outers os (spell_spot at (global_word ∷ x))) (add_name-spelled ns n rest))
on_global-added os at ns _ = tt

on_global_name-added : (os : List Outer) (at : Spot) (ns : Names) (k : Kind) → AddsToCell (spell_state (has_global os at ns)) k (on_global_name os at ns k)
on_global_name-added os at ns comma = λ rest. refl
on_global_name-added os at ns t.Newline = λ rest. ended-spelled os at (declare ns) rest
on_global_name-added os at ns _ = tt

-- ---- heads and lines

abbrev pub SpellsHead : Option Head → (List Kind → List Kind) → Type 0
SpellsHead None f = Unit {0}
SpellsHead (Some h) f = (rest : List Kind) → spell_head h rest ≡ f rest

pub head_of-spelled : (lead : Lead) (a : Option Exprs) (f : List Kind → List Kind) → SpellsAll a f → SpellsHead (head_of lead a) (λ rest. spell_lead lead (f (colon ∷ rest)))
head_of-spelled lead_if (Some (single a)) f h = λ rest. ap (spell_lead lead_if) (h (colon ∷ rest))
head_of-spelled (lead_elif bs) (Some (single a)) f h = λ rest. ap (spell_lead (lead_elif bs)) (h (colon ∷ rest))
head_of-spelled lead_while (Some (single a)) f h = λ rest. ap (spell_lead lead_while) (h (colon ∷ rest))
head_of-spelled (lead_for vs) (Some a) f h = λ rest. ap (spell_lead (lead_for vs)) (h (colon ∷ rest))
head_of-spelled _ _ f h = tt

tested-added : (os : List Outer) (before : Option Statements) (h : Option Head) (f : List Kind → List Kind) (k : Kind) → SpellsHead h (λ rest. f (colon ∷ rest)) → AddsToCell (λ rest. spell_outers os (spell_front before (f rest))) k (tested os before h k)
tested-added os before (Some h) f colon e = λ rest. ap (λ x. spell_outers os (spell_front before x)) (e rest)
tested-added os before _ f k e = tt

then_test-added : (os : List Outer) (before : Option Statements) (lead : Lead) (r : Reading) (t : Kind) (s : Option Reading) → Adds (spell_reading r) t s → AddsToCell (spell_state (in_test os before lead r)) t (then_test os before lead r t s)
then_test-added os before lead r t (Some s) h = allowed-added (fits lead s) (in_test os before lead s) (spell_state (in_test os before lead r)) t (λ rest. ap (λ x. spell_outers os (spell_front before (spell_lead lead x))) (h rest))
then_test-added os before lead r t None h = tested-added os before (head_of lead (whole r)) (λ rest. spell_lead lead (spell_reading r rest)) t (head_of-spelled lead (whole r) (spell_reading r) (whole-spelled r))

abbrev pub SpellsContinued : Option Continued → (List Kind → List Kind) → Type 0
SpellsContinued None f = Unit {0}
SpellsContinued (Some (continued before bs)) f = (rest : List Kind) → spell_front before (spell_branches bs rest) ≡ f rest

pub last_branches-spelled : (before : Option Statements) → SpellsContinued (last_branches before) (spell_front before)
last_branches-spelled (Some (statements_one (compound (choose c) b))) = λ rest. refl
last_branches-spelled (Some (statements_more ss (compound (choose c) b))) = λ rest. refl
last_branches-spelled _ = tt

elif_at-added : (os : List Outer) (k : Option Continued) (f : List Kind → List Kind) → SpellsContinued k f → AddsToCell (λ rest. spell_outers os (f rest)) elif_word (elif_at os k)
elif_at-added os None f h = tt
elif_at-added os (Some (continued before bs)) f h = λ rest. ap (spell_outers os) (h (elif_word ∷ rest))

else_at-added : (os : List Outer) (k : Option Continued) (f : List Kind → List Kind) → SpellsContinued k f → AddsToCell (λ rest. spell_outers os (f rest)) else_word (else_at os k)
else_at-added os None f h = tt
else_at-added os (Some (continued before bs)) f h = λ rest. ap (spell_outers os) (h (else_word ∷ rest))

def_at-added : (os : List Outer) (before : Option Statements) → AddsToCell (λ rest. spell_outers os (spell_front before rest)) def_word (def_at os before)
def_at-added [] before = λ rest. refl
def_at-added (o ∷ os) before = tt

dedent_at-added : (os : List Outer) (before : Option Statements) → AddsToCell (λ rest. spell_outers os (spell_front before rest)) t.Dedent (dedent_at os before)
dedent_at-added [] before = tt
dedent_at-added (o ∷ os) None = tt
dedent_at-added (o ∷ os) (Some ss) = λ rest. ap (spell_outers os) (close-spelled o (indented ss) rest)

end_at-added : (os : List Outer) (before : Option Statements) → AddsToCell (λ rest. spell_outers os (spell_front before rest)) t.End (end_at os before)
end_at-added [] before = λ rest. refl
end_at-added (o ∷ os) before = tt

on_line-added : (os : List Outer) (before : Option Statements) (t : Kind) → AddsToCell (λ rest. spell_outers os (spell_front before rest)) t (on_line os before t)
on_line-added os before if_word = λ rest. refl
on_line-added os before elif_word = elif_at-added os (last_branches before) _ (last_branches-spelled before)
on_line-added os before else_word = else_at-added os (last_branches before) _ (last_branches-spelled before)
on_line-added os before while_word = λ rest. refl
on_line-added os before for_word = λ rest. refl
on_line-added os before def_word = def_at-added os before
on_line-added os before t.Dedent = dedent_at-added os before
on_line-added os before t.End = end_at-added os before
on_line-added os before t = begins-added os (own before) t

variables_end-added : (os : List Outer) (before : Option Statements) (ns : Option Names) → AddsToCell (spell_state (in_variables os before ns)) in_word (variables_end os before ns)
variables_end-added os before None = tt
variables_end-added os before (Some ns) = λ rest. refl

on_variables-added : (os : List Outer) (before : Option Statements) (ns : Option Names) (k : Kind) → AddsToCell (spell_state (in_variables os before ns)) k (on_variables os before ns k)
on_variables-added os before ns (t.Name n) = λ rest. ap (λ x. spell_outers os (spell_front before (for_word ∷ x))) (add_name-spelled ns n rest)
on_variables-added os before ns in_word = variables_end-added os before ns
on_variables-added os before ns _ = tt

on_variable-added : (os : List Outer) (before : Option Statements) (ns : Names) (k : Kind) → AddsToCell (spell_state (has_variables os before ns)) k (on_variable os before ns k)
on_variable-added os before ns comma = λ rest. refl
on_variable-added os before ns in_word = λ rest. refl
on_variable-added os before ns _ = tt

on_else-added : (os : List Outer) (before : Option Statements) (bs : Branches) (k : Kind) → AddsToCell (spell_state (after_else os before bs)) k (on_else os before bs k)
on_else-added os before bs colon = λ rest. refl
on_else-added os before bs _ = tt

on_def-added : (before : Option Statements) (k : Kind) → AddsToCell (spell_state (after_def before)) k (on_def before k)
on_def-added before (t.Name n) = λ rest. refl
on_def-added before _ = tt

on_def_name-added : (before : Option Statements) (n : List ℕ) (k : Kind) → AddsToCell (spell_state (after_def_name before n)) k (on_def_name before n k)
on_def_name-added before n open_parenthesis = λ rest. refl
on_def_name-added before n _ = tt

on_params-added : (before : Option Statements) (n : List ℕ) (ns : Option Names) (k : Kind) → AddsToCell (spell_state (in_params before n ns)) k (on_params before n ns k)
on_params-added before n ns (t.Name m) = allowed-added (is_new_name ns m (λ rest. rest)) _ (spell_state (in_params before n ns)) (t.Name m) (λ rest. ap (λ x. spell_front before (def_word ∷ t.Name n ∷ open_parenthesis ∷ x)) (add_name-spelled ns m rest))
on_params-added before n ns close_parenthesis = λ rest. ap (λ x. spell_front before (def_word ∷ t.Name n ∷ open_parenthesis ∷ x)) (params_of-spelled ns (close_parenthesis ∷ rest))
on_params-added before n ns _ = tt

on_param-added : (before : Option Statements) (n : List ℕ) (ns : Names) (k : Kind) → AddsToCell (spell_state (has_params before n ns)) k (on_param before n ns k)
on_param-added before n ns comma = λ rest. refl
on_param-added before n ns close_parenthesis = λ rest. refl
on_param-added before n ns _ = tt

on_params_end-added : (before : Option Statements) (n : List ℕ) (ps : Params) (k : Kind) → AddsToCell (spell_state (after_params before n ps)) k (on_params_end before n ps k)
on_params_end-added before n ps colon = λ rest. refl
on_params_end-added before n ps _ = tt

on_colon-added : (os : List Outer) (o : Outer) (t : Kind) → AddsToCell (λ rest. spell_outers os (spell_outer o rest)) t (on_colon os o t)
on_colon-added os o t.Newline = λ rest. refl
on_colon-added os o t = begins-added os (behind_head o) t

on_newline-added : (os : List Outer) (o : Outer) (k : Kind) → AddsToCell (spell_state (after_newline os o)) k (on_newline os o k)
on_newline-added os o t.Indent = λ rest. refl
on_newline-added os o _ = tt

-- one more token is one more in the spelling
pub step-added : (s : State) (t : Kind) → AddsToCell (spell_state s) t (step s t)
step-added (line os before) t = on_line-added os before t
step-added (in_simple os at u r) t = on_simple-added os at u r t
step-added (after_word os at w) t = on_word-added os at w t
step-added (in_global os at ns) t = on_global-added os at ns t
step-added (has_global os at ns) t = on_global_name-added os at ns t
step-added (in_test os before lead r) t = then_test-added os before lead r t (read r t) (read-adds r t)
step-added (in_variables os before ns) t = on_variables-added os before ns t
step-added (has_variables os before ns) t = on_variable-added os before ns t
step-added (after_else os before bs) t = on_else-added os before bs t
step-added (after_def before) t = on_def-added before t
step-added (after_def_name before n) t = on_def_name-added before n t
step-added (in_params before n ns) t = on_params-added before n ns t
step-added (has_params before n ns) t = on_param-added before n ns t
step-added (after_params before n ps) t = on_params_end-added before n ps t
step-added (after_colon os o) t = on_colon-added os o t
step-added (after_newline os o) t = on_newline-added os o t
step-added (done c) t = tt
