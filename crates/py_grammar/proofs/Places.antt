-- Each statement, and what is open of a cell, spells tokens of its own.
use Rattle.std.proofs.Common.{List, [], ◌∷◌, Option, Some, None}
use Rattle.py_token.specs.declared.kinds.Kind.TheVariants as t
use Rattle.py_grammar.specs.Words.{if_word, else_word, elif_word, while_word, for_word, in_word, return_word, global_word, del_word, def_word, assign_sign, open_parenthesis, close_parenthesis, open_bracket, close_bracket, colon, comma}
use Rattle.py_grammar.specs.Statements.{Target, to_name, to_item, Places, places_one, places_more, Targets, targets, targets_comma, Variables, variables, variables_comma, Names, names_one, names_more, Simple, word, return_, give, declare, delete, assign, augment, show, spell_target, spell_places, spell_targets, spell_variables, augmentation_sign, spell_names, keyword, spell_simple, Params, no_params, params, params_comma, Statement, simple, compound, Head, choose, otherwise, while_true, for_each, define, Condition, if_true, else_if, Branches, branches, Block, inline, indented, Statements, statements_one, statements_more, spell_params, spell_statement, spell_head, spell_condition, spell_branches, spell_block, spell_statements, spell_front}
use Rattle.py_grammar.specs.States.{Outer, outer, Spot, own, behind_head, Purpose, showing, giving, deleting, assigning, augmenting, Lead, lead_if, lead_elif, lead_while, lead_for, State, line, in_simple, after_word, in_global, has_global, in_test, in_variables, has_variables, after_else, after_def, after_def_name, in_params, has_params, after_params, after_colon, after_newline, done, spell_names_before, spell_outer, spell_outers, spell_spot, spell_purpose, spell_lead, spell_state}
use Rattle.py_grammar.proofs.Standing.{Spelling, none, first, joined, expression-tokens, exprs-tokens, primary-tokens, reading-tokens}

place-tokens : (to : Target) → Spelling (spell_target to)
place-tokens (to_name n) = first (t.Name n) none
place-tokens (to_item p a) = joined (primary-tokens p) (first open_bracket (joined (expression-tokens a) (first close_bracket none)))

names-tokens : (ns : Names) → Spelling (spell_names ns)
names-tokens (names_one n) = first (t.Name n) none
names-tokens (names_more ns n) = joined (names-tokens ns) (first comma (first (t.Name n) none))

places-tokens : (ps : Places) → Spelling (spell_places ps)
places-tokens (places_one to) = place-tokens to
places-tokens (places_more ps to) = joined (places-tokens ps) (first comma (place-tokens to))

targets-tokens : (ts : Targets) → Spelling (spell_targets ts)
targets-tokens (targets ps) = places-tokens ps
targets-tokens (targets_comma ps) = joined (places-tokens ps) (first comma none)

variables-tokens : (vs : Variables) → Spelling (spell_variables vs)
variables-tokens (variables ns) = names-tokens ns
variables-tokens (variables_comma ns) = joined (names-tokens ns) (first comma none)

simple-tokens : (s : Simple) → Spelling (spell_simple s)
simple-tokens (word w) = first (keyword w) none
simple-tokens return_ = first return_word none
simple-tokens (give a) = first return_word (exprs-tokens a)
simple-tokens (declare ns) = first global_word (names-tokens ns)
simple-tokens (delete to) = first del_word (place-tokens to)
simple-tokens (assign ts a) = joined (targets-tokens ts) (first assign_sign (exprs-tokens a))
simple-tokens (augment to by a) = joined (place-tokens to) (first (augmentation_sign by) (exprs-tokens a))
simple-tokens (show a) = exprs-tokens a

params-tokens : (ps : Params) → Spelling (spell_params ps)
params-tokens no_params = none
params-tokens (params ns) = names-tokens ns
params-tokens (params_comma ns) = joined (names-tokens ns) (first comma none)

mutual
  pub statement-tokens : (s : Statement) → Spelling (spell_statement s)
  statement-tokens (simple s) = joined (simple-tokens s) (first t.Newline none)
  statement-tokens (compound h b) = joined (head-tokens h) (block-tokens b)

  pub head-tokens : (h : Head) → Spelling (spell_head h)
  head-tokens (choose c) = condition-tokens c
  head-tokens (otherwise bs) = joined (branches-tokens bs) (first else_word (first colon none))
  head-tokens (while_true a) = first while_word (joined (expression-tokens a) (first colon none))
  head-tokens (for_each vs a) = first for_word (joined (variables-tokens vs) (first in_word (joined (exprs-tokens a) (first colon none))))
  head-tokens (define n ps) = first def_word (first (t.Name n) (first open_parenthesis (joined (params-tokens ps) (first close_parenthesis (first colon none)))))

  pub condition-tokens : (c : Condition) → Spelling (spell_condition c)
  condition-tokens (if_true a) = first if_word (joined (expression-tokens a) (first colon none))
  condition-tokens (else_if bs a) = joined (branches-tokens bs) (first elif_word (joined (expression-tokens a) (first colon none)))

  pub branches-tokens : (bs : Branches) → Spelling (spell_branches bs)
  branches-tokens (branches c b) = joined (condition-tokens c) (block-tokens b)

  pub block-tokens : (b : Block) → Spelling (spell_block b)
  block-tokens (inline s) = joined (simple-tokens s) (first t.Newline none)
  block-tokens (indented ss) = first t.Newline (first t.Indent (joined (statements-tokens ss) (first t.Dedent none)))

  pub statements-tokens : (ss : Statements) → Spelling (spell_statements ss)
  statements-tokens (statements_one s) = statement-tokens s
  statements-tokens (statements_more ss s) = joined (statements-tokens ss) (statement-tokens s)

front-tokens : (c : Option Statements) → Spelling (spell_front c)
front-tokens None = none
front-tokens (Some ss) = statements-tokens ss

outer-tokens : (o : Outer) → Spelling (spell_outer o)
outer-tokens (outer before h) = joined (front-tokens before) (head-tokens h)

outers-tokens : (os : List Outer) → Spelling (spell_outers os)
outers-tokens [] = none
outers-tokens (o ∷ os) = joined (outers-tokens os) (joined (outer-tokens o) (first t.Newline (first t.Indent none)))

spot-tokens : (at : Spot) → Spelling (spell_spot at)
spot-tokens (own before) = front-tokens before
spot-tokens (behind_head o) = outer-tokens o

purpose-tokens : (u : Purpose) → Spelling (spell_purpose u)
purpose-tokens showing = none
purpose-tokens giving = first return_word none
purpose-tokens deleting = first del_word none
purpose-tokens (assigning ts) = joined (targets-tokens ts) (first assign_sign none)
purpose-tokens (augmenting to by) = joined (place-tokens to) (first (augmentation_sign by) none)

lead-tokens : (l : Lead) → Spelling (spell_lead l)
lead-tokens lead_if = first if_word none
lead-tokens (lead_elif bs) = joined (branches-tokens bs) (first elif_word none)
lead-tokens lead_while = first while_word none
lead-tokens (lead_for vs) = first for_word (joined (variables-tokens vs) (first in_word none))

names_before-tokens : (ns : Option Names) → Spelling (spell_names_before ns)
names_before-tokens None = none
names_before-tokens (Some ns) = joined (names-tokens ns) (first comma none)

pub state-tokens : (s : State) → Spelling (spell_state s)
state-tokens (line os before) = joined (outers-tokens os) (front-tokens before)
state-tokens (in_simple os at u r) = joined (outers-tokens os) (joined (spot-tokens at) (joined (purpose-tokens u) (reading-tokens r)))
state-tokens (after_word os at w) = joined (outers-tokens os) (joined (spot-tokens at) (first (keyword w) none))
state-tokens (in_global os at ns) = joined (outers-tokens os) (joined (spot-tokens at) (first global_word (names_before-tokens ns)))
state-tokens (has_global os at ns) = joined (outers-tokens os) (joined (spot-tokens at) (first global_word (names-tokens ns)))
state-tokens (in_test os before lead r) = joined (outers-tokens os) (joined (front-tokens before) (joined (lead-tokens lead) (reading-tokens r)))
state-tokens (in_variables os before ns) = joined (outers-tokens os) (joined (front-tokens before) (first for_word (names_before-tokens ns)))
state-tokens (has_variables os before ns) = joined (outers-tokens os) (joined (front-tokens before) (first for_word (names-tokens ns)))
state-tokens (after_else os before bs) = joined (outers-tokens os) (joined (front-tokens before) (joined (branches-tokens bs) (first else_word none)))
state-tokens (after_def before) = joined (front-tokens before) (first def_word none)
state-tokens (after_def_name before n) = joined (front-tokens before) (first def_word (first (t.Name n) none))
state-tokens (in_params before n ns) = joined (front-tokens before) (first def_word (first (t.Name n) (first open_parenthesis (names_before-tokens ns))))
state-tokens (has_params before n ns) = joined (front-tokens before) (first def_word (first (t.Name n) (first open_parenthesis (names-tokens ns))))
state-tokens (after_params before n ps) = joined (front-tokens before) (first def_word (first (t.Name n) (first open_parenthesis (joined (params-tokens ps) (first close_parenthesis none)))))
state-tokens (after_colon os o) = joined (outers-tokens os) (outer-tokens o)
state-tokens (after_newline os o) = joined (outers-tokens os) (joined (outer-tokens o) (first t.Newline none))
state-tokens (done c) = joined (front-tokens c) (first t.End none)
