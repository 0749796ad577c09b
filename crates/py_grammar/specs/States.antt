-- Reading a cell: what has been read, as forms that are still open, and what one more token makes of it.
use Rattle.std.specs.Prelude.{◌≡◌, ℕ, Bool, true, false, IsTrue, if◌then◌else◌, List, [], ◌∷◌, ◌++◌, Option, Some, None}
use Rattle.py_token.specs.declared.kinds.Kind.{Kind}
use Rattle.py_token.specs.declared.kinds.Kind.TheVariants as t
use Rattle.py_grammar.specs.Words.{if_word, else_word, elif_word, while_word, for_word, in_word, pass_word, break_word, continue_word, return_word, global_word, del_word, def_word, floor_assign_sign, plus_assign_sign, minus_assign_sign, times_assign_sign, mod_assign_sign, assign_sign, open_parenthesis, close_parenthesis, colon, comma}
use Rattle.py_grammar.specs.Expressions.{Expression, plain, ors_one, ands_one, compared, compares_one, sums_one, products_one, unsigned, Primary, name, index, Elements, elements_one, elements_more, Exprs, single, tuple, tuple_comma}
use Rattle.py_grammar.specs.Readings.{Reading, wants, begun, read, whole, bare, narrow, undivided, reading_stands}
use Rattle.py_grammar.specs.Open.{spell_reading}
use Rattle.py_grammar.specs.Statements.{Target, to_name, to_item, Places, places_one, places_more, Targets, targets, targets_comma, Variables, variables, variables_comma, Augmentation, by_plus, by_minus, by_times, by_floor, by_modulo, Names, names_one, names_more, Word, pass_, break_, continue_, Simple, word, return_, give, declare, delete, assign, augment, show, spell_target, spell_targets, spell_variables, augmentation_sign, spell_names, keyword, Params, no_params, params, params_comma, Statement, simple, compound, Head, choose, otherwise, while_true, for_each, define, if_true, else_if, Branches, branches, Block, inline, indented, Statements, statements_one, statements_more, spell_params, spell_head, spell_branches, Around, outside_all, inside, hear, is_new, names_new, params_new, word_stands, head_stands, branches_stand, spell_front, front_stands, cell_stands}

-- a compound statement whose block is open: what is before it in its own block, and its head
pub data Outer : Type 0 where
  outer : Option Statements → Head → Outer

-- where a simple statement is: on a line of its own after these, or after the `:` of a head
pub data Spot : Type 0 where
  own : Option Statements → Spot
  behind_head : Outer → Spot

-- what an expression of a simple statement is for
pub data Purpose : Type 0 where
  showing : Purpose
  giving : Purpose
  deleting : Purpose
  assigning : Targets → Purpose
  augmenting : Target → Augmentation → Purpose

-- what an expression of a head is for
pub data Lead : Type 0 where
  lead_if : Lead
  lead_elif : Branches → Lead
  lead_while : Lead
  lead_for : Variables → Lead

-- what has been read of a cell; a function is only at its top, so its head has nothing around it
pub data State : Type 0 where
  line : List Outer → Option Statements → State
  in_simple : List Outer → Spot → Purpose → Reading → State
  after_word : List Outer → Spot → Word → State
  in_global : List Outer → Spot → Option Names → State
  has_global : List Outer → Spot → Names → State
  in_test : List Outer → Option Statements → Lead → Reading → State
  in_variables : List Outer → Option Statements → Option Names → State
  has_variables : List Outer → Option Statements → Names → State
  after_else : List Outer → Option Statements → Branches → State
  after_def : Option Statements → State
  after_def_name : Option Statements → List ℕ → State
  in_params : Option Statements → List ℕ → Option Names → State
  has_params : Option Statements → List ℕ → Names → State
  after_params : Option Statements → List ℕ → Params → State
  after_colon : List Outer → Outer → State
  after_newline : List Outer → Outer → State
  done : Option Statements → State

abbrev pub start : State
start = line [] None

-- ---- expressions that may be targets

-- the primary, if the expression is one alone
abbrev pub primary_alone : Expression → Option Primary
primary_alone (plain (ors_one (ands_one (compared (compares_one (sums_one (products_one (unsigned p)))))))) = Some p
primary_alone _ = None

abbrev pub target_of : Option Primary → Option Target
target_of (Some (name n)) = Some (to_name n)
target_of (Some (index p a)) = Some (to_item p a)
target_of _ = None

abbrev pub first_place : Option Target → Option Places
first_place None = None
first_place (Some to) = Some (places_one to)

abbrev pub more_places : Option Places → Option Target → Option Places
more_places (Some ps) (Some to) = Some (places_more ps to)
more_places _ _ = None

abbrev pub places_of : Elements → Option Places
places_of (elements_one a) = first_place (target_of (primary_alone a))
places_of (elements_more es a) = more_places (places_of es) (target_of (primary_alone a))

abbrev pub undivided_targets : Option Places → Option Targets
undivided_targets None = None
undivided_targets (Some ps) = Some (targets ps)

abbrev pub divided_targets : Option Places → Option Targets
divided_targets None = None
divided_targets (Some ps) = Some (targets_comma ps)

-- the one target that it is, if it is one
abbrev pub target_in : Exprs → Option Target
target_in (single a) = target_of (primary_alone a)
target_in _ = None

-- the targets that it is, if it is targets
abbrev pub targets_in : Exprs → Option Targets
targets_in (single a) = undivided_targets (first_place (target_of (primary_alone a)))
targets_in (tuple es a) = undivided_targets (more_places (places_of es) (target_of (primary_alone a)))
targets_in (tuple_comma es) = divided_targets (places_of es)

-- ---- where it is

abbrev pub around : List Outer → Around
around [] = outside_all
around (outer before h ∷ os) = inside h (around os)

-- the tokens of the function so far, before these
abbrev pub heard : List Outer → List Kind → List Kind
heard [] rest = rest
heard (outer before h ∷ os) rest = hear h (λ more. heard os (spell_front before more)) rest

abbrev pub spot_around : List Outer → Spot → Around
spot_around os (own before) = around os
spot_around os (behind_head (outer before h)) = inside h (around os)

abbrev pub spot_heard : List Outer → Spot → List Kind → List Kind
spot_heard os (own before) rest = heard os (spell_front before rest)
spot_heard os (behind_head (outer before h)) rest = hear h (λ more. heard os (spell_front before more)) rest

-- ---- what is closed

abbrev pub add_statement : Option Statements → Statement → Option Statements
add_statement None s = Some (statements_one s)
add_statement (Some ss) s = Some (statements_more ss s)

abbrev pub add_name : Option Names → List ℕ → Names
add_name None n = names_one n
add_name (Some ns) n = names_more ns n

abbrev pub close : Outer → Block → Option Statements
close (outer before h) b = add_statement before (compound h b)

-- a simple statement ends
abbrev pub ended : List Outer → Spot → Simple → State
ended os (own before) s = line os (add_statement before (simple s))
ended os (behind_head o) s = line os (close o (inline s))

-- the one target that has been read, if it is one
abbrev pub place_of : Option Exprs → Option Target
place_of None = None
place_of (Some a) = target_in a

abbrev pub targets_of : Option Exprs → Option Targets
targets_of None = None
targets_of (Some a) = targets_in a

abbrev pub is_begun : Reading → Bool
is_begun (wants [] u w) = bare u w
is_begun _ = false

abbrev pub if_made : (Exprs → Simple) → Option Exprs → Option Simple
if_made f None = None
if_made f (Some a) = Some (f a)

abbrev pub if_deleted : Option Target → Option Simple
if_deleted None = None
if_deleted (Some to) = Some (delete to)

-- the simple statement, if it may end
abbrev pub finished : Purpose → Reading → Option Simple
finished showing r = if_made show (whole r)
finished giving r = if is_begun r then Some return_ else if_made give (whole r)
finished deleting r = if_deleted (place_of (whole r))
finished (assigning ts) r = if_made (assign ts) (whole r)
finished (augmenting to by) r = if_made (augment to by) (whole r)

-- the head, if what has been read fits: a tuple without parentheses is only what a `for` goes over
abbrev pub head_of : Lead → Option Exprs → Option Head
head_of lead_if (Some (single a)) = Some (choose (if_true a))
head_of (lead_elif bs) (Some (single a)) = Some (choose (else_if bs a))
head_of lead_while (Some (single a)) = Some (while_true a)
head_of (lead_for vs) (Some a) = Some (for_each vs a)
head_of _ _ = None

abbrev pub fits : Lead → Reading → Bool
fits (lead_for vs) r = true
fits _ r = undivided r

-- the branches that are last, and what is before them
pub data Continued : Type 0 where
  continued : Option Statements → Branches → Continued

abbrev pub last_branches : Option Statements → Option Continued
last_branches (Some (statements_one (compound (choose c) b))) = Some (continued None (branches c b))
last_branches (Some (statements_more ss (compound (choose c) b))) = Some (continued (Some ss) (branches c b))
last_branches _ = None

-- ---- one more token

abbrev pub if_allowed : Bool → State → Option State
if_allowed true s = Some s
if_allowed false s = None

abbrev pub then_simple : List Outer → Spot → Purpose → Option Reading → Option State
then_simple os at u None = None
then_simple os at deleting (Some r) = if_allowed (narrow r) (in_simple os at deleting r)
then_simple os at u (Some r) = Some (in_simple os at u r)

-- a simple statement begins
abbrev pub begins : List Outer → Spot → Kind → Option State
begins os at pass_word = Some (after_word os at pass_)
begins os at break_word = if_allowed (spot_around os at).in_loop (after_word os at break_)
begins os at continue_word = if_allowed (spot_around os at).in_loop (after_word os at continue_)
begins os at return_word = if_allowed (spot_around os at).in_function (in_simple os at giving begun)
begins os at global_word = if_allowed (spot_around os at).in_function (in_global os at None)
begins os at del_word = Some (in_simple os at deleting begun)
begins os at t = then_simple os at showing (read begun t)

abbrev pub elif_at : List Outer → Option Continued → Option State
elif_at os None = None
elif_at os (Some (continued before bs)) = Some (in_test os before (lead_elif bs) begun)

abbrev pub else_at : List Outer → Option Continued → Option State
else_at os None = None
else_at os (Some (continued before bs)) = Some (after_else os before bs)

abbrev pub def_at : List Outer → Option Statements → Option State
def_at [] before = Some (after_def before)
def_at _ before = None

abbrev pub dedent_at : List Outer → Option Statements → Option State
dedent_at (o ∷ os) (Some ss) = Some (line os (close o (indented ss)))
dedent_at _ _ = None

abbrev pub end_at : List Outer → Option Statements → Option State
end_at [] before = Some (done before)
end_at _ before = None

abbrev pub on_line : List Outer → Option Statements → Kind → Option State
on_line os before if_word = Some (in_test os before lead_if begun)
on_line os before elif_word = elif_at os (last_branches before)
on_line os before else_word = else_at os (last_branches before)
on_line os before while_word = Some (in_test os before lead_while begun)
on_line os before for_word = Some (in_variables os before None)
on_line os before def_word = def_at os before
on_line os before t.Dedent = dedent_at os before
on_line os before t.End = end_at os before
on_line os before t = begins os (own before) t

abbrev pub ends : List Outer → Spot → Option Simple → Option State
ends os at None = None
ends os at (Some s) = Some (ended os at s)

abbrev pub assigns : List Outer → Spot → Purpose → Option Targets → Option State
assigns os at showing (Some ts) = Some (in_simple os at (assigning ts) begun)
assigns os at _ _ = None

abbrev pub augments : List Outer → Spot → Augmentation → Purpose → Option Target → Option State
augments os at by showing (Some to) = Some (in_simple os at (augmenting to by) begun)
augments os at by _ _ = None

abbrev pub on_simple : List Outer → Spot → Purpose → Reading → Kind → Option State
on_simple os at u r t.Newline = ends os at (finished u r)
on_simple os at u r assign_sign = assigns os at u (targets_of (whole r))
on_simple os at u r plus_assign_sign = augments os at by_plus u (place_of (whole r))
on_simple os at u r minus_assign_sign = augments os at by_minus u (place_of (whole r))
on_simple os at u r times_assign_sign = augments os at by_times u (place_of (whole r))
on_simple os at u r floor_assign_sign = augments os at by_floor u (place_of (whole r))
on_simple os at u r mod_assign_sign = augments os at by_modulo u (place_of (whole r))
on_simple os at u r t = then_simple os at u (read r t)

abbrev pub on_word : List Outer → Spot → Word → Kind → Option State
on_word os at w t.Newline = Some (ended os at (word w))
on_word os at w _ = None

abbrev pub spell_names_before : Option Names → List Kind → List Kind
spell_names_before None rest = rest
spell_names_before (Some ns) rest = spell_names ns (comma ∷ rest)

-- the names of a statement, in it so far
abbrev pub is_new_name : Option Names → List ℕ → (List Kind → List Kind) → Bool
is_new_name None n earlier = is_new n (earlier [])
is_new_name (Some ns) n earlier = is_new n (earlier (spell_names ns []))

abbrev pub on_global : List Outer → Spot → Option Names → Kind → Option State
on_global os at ns (t.Name n) = if_allowed (is_new_name ns n (spot_heard os at)) (has_global os at (add_name ns n))
on_global os at ns _ = None

abbrev pub on_global_name : List Outer → Spot → Names → Kind → Option State
on_global_name os at ns comma = Some (in_global os at (Some ns))
on_global_name os at ns t.Newline = Some (ended os at (declare ns))
on_global_name os at ns _ = None

abbrev pub tested : List Outer → Option Statements → Option Head → Kind → Option State
tested os before (Some h) colon = Some (after_colon os (outer before h))
tested os before _ _ = None

-- a `:` in a bracket belongs to it, and one outside all brackets ends the head
abbrev pub then_test : List Outer → Option Statements → Lead → Reading → Kind → Option Reading → Option State
then_test os before lead r t (Some s) = if_allowed (fits lead s) (in_test os before lead s)
then_test os before lead r t None = tested os before (head_of lead (whole r)) t

abbrev pub variables_end : List Outer → Option Statements → Option Names → Option State
variables_end os before None = None
variables_end os before (Some ns) = Some (in_test os before (lead_for (variables_comma ns)) begun)

abbrev pub on_variables : List Outer → Option Statements → Option Names → Kind → Option State
on_variables os before ns (t.Name n) = Some (has_variables os before (add_name ns n))
on_variables os before ns in_word = variables_end os before ns
on_variables os before ns _ = None

abbrev pub on_variable : List Outer → Option Statements → Names → Kind → Option State
on_variable os before ns comma = Some (in_variables os before (Some ns))
on_variable os before ns in_word = Some (in_test os before (lead_for (variables ns)) begun)
on_variable os before ns _ = None

abbrev pub on_else : List Outer → Option Statements → Branches → Kind → Option State
on_else os before bs colon = Some (after_colon os (outer before (otherwise bs)))
on_else os before bs _ = None

abbrev pub on_def : Option Statements → Kind → Option State
on_def before (t.Name n) = Some (after_def_name before n)
on_def before _ = None

abbrev pub on_def_name : Option Statements → List ℕ → Kind → Option State
on_def_name before n open_parenthesis = Some (in_params before n None)
on_def_name before n _ = None

abbrev pub params_of : Option Names → Params
params_of None = no_params
params_of (Some ns) = params_comma ns

abbrev pub on_params : Option Statements → List ℕ → Option Names → Kind → Option State
on_params before n ns (t.Name m) = if_allowed (is_new_name ns m (λ rest. rest)) (has_params before n (add_name ns m))
on_params before n ns close_parenthesis = Some (after_params before n (params_of ns))
on_params before n ns _ = None

abbrev pub on_param : Option Statements → List ℕ → Names → Kind → Option State
on_param before n ns comma = Some (in_params before n (Some ns))
on_param before n ns close_parenthesis = Some (after_params before n (params ns))
on_param before n ns _ = None

abbrev pub on_params_end : Option Statements → List ℕ → Params → Kind → Option State
on_params_end before n ps colon = Some (after_colon [] (outer before (define n ps)))
on_params_end before n ps _ = None

abbrev pub on_colon : List Outer → Outer → Kind → Option State
on_colon os o t.Newline = Some (after_newline os o)
on_colon os o t = begins os (behind_head o) t

abbrev pub on_newline : List Outer → Outer → Kind → Option State
on_newline os o t.Indent = Some (line (o ∷ os) None)
on_newline os o _ = None

-- one more token of a cell
abbrev pub step : State → Kind → Option State
step (line os before) t = on_line os before t
step (in_simple os at u r) t = on_simple os at u r t
step (after_word os at w) t = on_word os at w t
step (in_global os at ns) t = on_global os at ns t
step (has_global os at ns) t = on_global_name os at ns t
step (in_test os before lead r) t = then_test os before lead r t (read r t)
step (in_variables os before ns) t = on_variables os before ns t
step (has_variables os before ns) t = on_variable os before ns t
step (after_else os before bs) t = on_else os before bs t
step (after_def before) t = on_def before t
step (after_def_name before n) t = on_def_name before n t
step (in_params before n ns) t = on_params before n ns t
step (has_params before n ns) t = on_param before n ns t
step (after_params before n ps) t = on_params_end before n ps t
step (after_colon os o) t = on_colon os o t
step (after_newline os o) t = on_newline os o t
step (done c) t = None

abbrev pub run : State → List Kind → Option State
run s [] = Some s
run s (t ∷ ts) = elim (step s t) [ None ↦ None | Some u ↦ run u ts ]

-- ---- what they spell

abbrev pub spell_outer : Outer → List Kind → List Kind
spell_outer (outer before h) rest = spell_front before (spell_head h rest)

abbrev pub spell_outers : List Outer → List Kind → List Kind
spell_outers [] rest = rest
spell_outers (o ∷ os) rest = spell_outers os (spell_outer o (t.Newline ∷ t.Indent ∷ rest))

abbrev pub spell_spot : Spot → List Kind → List Kind
spell_spot (own before) rest = spell_front before rest
spell_spot (behind_head o) rest = spell_outer o rest

abbrev pub spell_purpose : Purpose → List Kind → List Kind
spell_purpose showing rest = rest
spell_purpose giving rest = return_word ∷ rest
spell_purpose deleting rest = del_word ∷ rest
spell_purpose (assigning ts) rest = spell_targets ts (assign_sign ∷ rest)
spell_purpose (augmenting to by) rest = spell_target to (augmentation_sign by ∷ rest)

abbrev pub spell_lead : Lead → List Kind → List Kind
spell_lead lead_if rest = if_word ∷ rest
spell_lead (lead_elif bs) rest = spell_branches bs (elif_word ∷ rest)
spell_lead lead_while rest = while_word ∷ rest
spell_lead (lead_for vs) rest = for_word ∷ spell_variables vs (in_word ∷ rest)

abbrev pub spell_state : State → List Kind → List Kind
spell_state (line os before) rest = spell_outers os (spell_front before rest)
spell_state (in_simple os at u r) rest = spell_outers os (spell_spot at (spell_purpose u (spell_reading r rest)))
spell_state (after_word os at w) rest = spell_outers os (spell_spot at (keyword w ∷ rest))
spell_state (in_global os at ns) rest = spell_outers os (spell_spot at (global_word ∷ spell_names_before ns rest))
spell_state (has_global os at ns) rest = spell_outers os (spell_spot at (global_word ∷ spell_names ns rest))
spell_state (in_test os before lead r) rest = spell_outers os (spell_front before (spell_lead lead (spell_reading r rest)))
spell_state (in_variables os before ns) rest = spell_outers os (spell_front before (for_word ∷ spell_names_before ns rest))
spell_state (has_variables os before ns) rest = spell_outers os (spell_front before (for_word ∷ spell_names ns rest))
spell_state (after_else os before bs) rest = spell_outers os (spell_front before (spell_branches bs (else_word ∷ rest)))
spell_state (after_def before) rest = spell_front before (def_word ∷ rest)
spell_state (after_def_name before n) rest = spell_front before (def_word ∷ t.Name n ∷ rest)
spell_state (in_params before n ns) rest = spell_front before (def_word ∷ t.Name n ∷ open_parenthesis ∷ spell_names_before ns rest)
spell_state (has_params before n ns) rest = spell_front before (def_word ∷ t.Name n ∷ open_parenthesis ∷ spell_names ns rest)
spell_state (after_params before n ps) rest = spell_front before (def_word ∷ t.Name n ∷ open_parenthesis ∷ spell_params ps (close_parenthesis ∷ rest))
spell_state (after_colon os o) rest = spell_outers os (spell_outer o rest)
spell_state (after_newline os o) rest = spell_outers os (spell_outer o (t.Newline ∷ rest))
spell_state (done c) rest = spell_front c (t.End ∷ rest)

-- these tokens have been read when these forms are open
abbrev pub StandsAt : List Kind → State → Type 0
StandsAt tokens s = (rest : List Kind) → spell_state s rest ≡ tokens ++ rest

-- ---- what is open is where it may be

abbrev pub outers_stand : List Outer → Type 0
outers_stand [] = Unit {0}
outers_stand (outer before h ∷ os) = outers_stand os × front_stands before (around os) (heard os) × head_stands h (around os) (λ rest. heard os (spell_front before rest))

abbrev pub spot_stands : List Outer → Spot → Type 0
spot_stands os (own before) = front_stands before (around os) (heard os)
spot_stands os (behind_head (outer before h)) = front_stands before (around os) (heard os) × head_stands h (around os) (λ rest. heard os (spell_front before rest))

abbrev pub purpose_stands : Purpose → Reading → Around → Type 0
purpose_stands showing r a = (r ≡ begun) → ⊥
purpose_stands giving r a = IsTrue a.in_function
purpose_stands deleting r a = IsTrue (narrow r)
purpose_stands (assigning ts) r a = Unit {0}
purpose_stands (augmenting to by) r a = Unit {0}

abbrev pub lead_stands : Lead → Around → (List Kind → List Kind) → Type 0
lead_stands lead_if a earlier = Unit {0}
lead_stands (lead_elif bs) a earlier = branches_stand bs a earlier
lead_stands lead_while a earlier = Unit {0}
lead_stands (lead_for vs) a earlier = Unit {0}

abbrev pub some_names_new : Option Names → (List Kind → List Kind) → Type 0
some_names_new None earlier = Unit {0}
some_names_new (Some ns) earlier = names_new ns earlier

abbrev pub state_stands : State → Type 0
state_stands (line os before) = outers_stand os × front_stands before (around os) (heard os)
state_stands (in_simple os at u r) = outers_stand os × spot_stands os at × purpose_stands u r (spot_around os at) × reading_stands r
state_stands (after_word os at w) = outers_stand os × spot_stands os at × word_stands w (spot_around os at)
state_stands (in_global os at ns) = outers_stand os × spot_stands os at × IsTrue (spot_around os at).in_function × some_names_new ns (spot_heard os at)
state_stands (has_global os at ns) = outers_stand os × spot_stands os at × IsTrue (spot_around os at).in_function × names_new ns (spot_heard os at)
state_stands (in_test os before lead r) = outers_stand os × front_stands before (around os) (heard os) × lead_stands lead (around os) (λ rest. heard os (spell_front before rest)) × IsTrue (fits lead r) × reading_stands r
state_stands (in_variables os before ns) = outers_stand os × front_stands before (around os) (heard os)
state_stands (has_variables os before ns) = outers_stand os × front_stands before (around os) (heard os)
state_stands (after_else os before bs) = outers_stand os × front_stands before (around os) (heard os) × branches_stand bs (around os) (λ rest. heard os (spell_front before rest))
state_stands (after_def before) = front_stands before outside_all (λ rest. rest)
state_stands (after_def_name before n) = front_stands before outside_all (λ rest. rest)
state_stands (in_params before n ns) = front_stands before outside_all (λ rest. rest) × some_names_new ns (λ rest. rest)
state_stands (has_params before n ns) = front_stands before outside_all (λ rest. rest) × names_new ns (λ rest. rest)
state_stands (after_params before n ps) = front_stands before outside_all (λ rest. rest) × params_new ps
state_stands (after_colon os (outer before h)) = outers_stand os × front_stands before (around os) (heard os) × head_stands h (around os) (λ rest. heard os (spell_front before rest))
state_stands (after_newline os (outer before h)) = outers_stand os × front_stands before (around os) (heard os) × head_stands h (around os) (λ rest. heard os (spell_front before rest))
state_stands (done c) = cell_stands c
