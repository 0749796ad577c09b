-- What the program holds of a cell whose forms are open, before these tokens.
use Rattle.std.specs.Prelude.{ℕ, List, [], ◌∷◌, length, Option, Some, None}
use Rattle.py_token.specs.declared.kinds.Kind.{Kind}
use Rattle.py_token.specs.declared.kinds.Kind.TheVariants as t
use Rattle.py_grammar.specs.Words.{else_word, elif_word, for_word, global_word, def_word, assign_sign, open_parenthesis, close_parenthesis, colon}
use Rattle.py_grammar.specs.Open.{spell_reading}
use Rattle.py_grammar.specs.Statements as g
use Rattle.py_grammar.specs.Statements.{pass_, break_, continue_, compound, choose, otherwise, while_true, for_each, define, statements_one, statements_more, Statements, augmentation_sign, spell_names, spell_params, spell_branches, keyword, spell_head, spell_front}
use Rattle.py_grammar.specs.States as m
use Rattle.py_grammar.specs.States.{outer, own, behind_head, showing, giving, deleting, assigning, augmenting, lead_if, lead_elif, lead_while, lead_for, line, in_simple, after_word, in_global, has_global, in_test, in_variables, has_variables, after_else, after_def, after_def_name, in_params, has_params, after_params, after_colon, after_newline, done, spell_names_before, spell_outer, spell_spot, spell_purpose, spell_lead}
use Rattle.py_grammar.specs.Trees.{tree_names, tree_params, tree_variables, targets_divided, variables_divided}
use Rattle.py_frames.specs.Held.{held}
use Rattle.py_frames.specs.Kept.{kept_expression, kept_exprs}
use Rattle.py_blocks.specs.declared.state.Around.{Around}
use Rattle.py_blocks.specs.declared.state.Begun.{Begun}
use Rattle.py_blocks.specs.declared.state.Branches.{Branches}
use Rattle.py_blocks.specs.declared.state.Done.{Done}
use Rattle.py_blocks.specs.declared.state.Head.{Head}
use Rattle.py_blocks.specs.declared.state.Head.TheVariants as head
use Rattle.py_blocks.specs.declared.state.Last.{Last}
use Rattle.py_blocks.specs.declared.state.Last.TheVariants as last
use Rattle.py_blocks.specs.declared.state.Lead.{Lead}
use Rattle.py_blocks.specs.declared.state.Lead.TheVariants as lead
use Rattle.py_blocks.specs.declared.state.Outer.{Outer}
use Rattle.py_blocks.specs.declared.state.Purpose.{Purpose}
use Rattle.py_blocks.specs.declared.state.Purpose.TheVariants as purpose
use Rattle.py_blocks.specs.declared.state.Simple.{Simple}
use Rattle.py_blocks.specs.declared.state.Spot.{Spot}
use Rattle.py_blocks.specs.declared.state.Spot.TheVariants as spot
use Rattle.py_blocks.specs.declared.state.State.{State}
use Rattle.py_blocks.specs.declared.state.State.TheVariants as h
use Rattle.py_blocks.specs.declared.state.Test.{Test}
use Rattle.py_blocks.specs.declared.state.Word.{Word}
use Rattle.py_blocks.specs.declared.state.Word.TheVariants as word
use Rattle.py_blocks.specs.Blocks.{Texts, nothing}
use Rattle.py_blocks.specs.Kept.{under_target, under_targets, under_head, under_branches, under_statements, augmentation_op, kept_target, kept_targets, kept_test, kept_arms_before, kept_arms, kept_statements}

module _ (place : ℕ → ℕ) where
  -- ---- blocks

  abbrev pub held_done : Texts → Option Statements → List Kind → Done
  held_done texts None rest = nothing
  held_done texts (Some ss) rest = record { statements = kept_statements place texts ss rest; under = under_statements place ss rest }

  abbrev pub held_branches : Texts → g.Branches → List Kind → Branches
  held_branches texts bs rest = record { arms = kept_arms place texts bs rest; from = place (length (spell_branches bs rest)); under = under_branches place bs rest }

  abbrev pub held_around : g.Around → Around
  held_around a = record { in_function = a.in_function; in_loop = a.in_loop }

  abbrev pub held_head : Texts → g.Head → List Kind → Head
  held_head texts (choose c) rest = head.Branch (kept_arms_before place texts c rest) (kept_test place c rest)
  held_head texts (otherwise bs) rest = head.Else (kept_arms place texts bs (else_word ∷ colon ∷ rest))
  held_head texts (while_true a) rest = head.While (kept_expression place a (colon ∷ rest))
  held_head texts (for_each vs a) rest = head.For (tree_variables vs) (variables_divided vs) (kept_exprs place a (colon ∷ rest))
  held_head texts (define n ps) rest = head.Function n (tree_params ps)

  abbrev pub held_outer : Texts → List m.Outer → m.Outer → List Kind → Outer
  held_outer texts os (outer before h) rest = record { before = held_done texts before (spell_head h rest); from = place (length (spell_head h rest)); under = under_head place h rest; head = held_head texts h rest; around = held_around (g.inside h (m.around os)) }

  abbrev pub held_outers : Texts → List m.Outer → List Kind → List Outer
  held_outers texts [] rest = []
  held_outers texts (o ∷ os) rest = held_outer texts os o (t.Newline ∷ t.Indent ∷ rest) ∷ held_outers texts os (spell_outer o (t.Newline ∷ t.Indent ∷ rest))

  abbrev pub held_spot : Texts → List m.Outer → m.Spot → List Kind → Spot
  held_spot texts os (own before) rest = spot.Own (held_done texts before rest)
  held_spot texts os (behind_head o) rest = spot.Behind (held_outer texts os o rest)

  -- ---- statements that are read

  abbrev pub held_simple : Texts → List m.Outer → m.Spot → List Kind → Simple
  held_simple texts os at rest = record { outers = held_outers texts os (spell_spot at rest); spot = held_spot texts os at rest; from = place (length rest) }

  abbrev pub held_begun : Texts → List m.Outer → Option Statements → List Kind → Begun
  held_begun texts os before rest = record { outers = held_outers texts os (spell_front before rest); before = held_done texts before rest; from = place (length rest) }

  abbrev pub held_purpose : m.Purpose → List Kind → Purpose
  held_purpose showing rest = purpose.Showing
  held_purpose giving rest = purpose.Giving
  held_purpose deleting rest = purpose.Deleting
  held_purpose (assigning ts) rest = purpose.Assigning (record { targets = kept_targets place ts (assign_sign ∷ rest); divided = targets_divided ts; under = under_targets place ts (assign_sign ∷ rest) })
  held_purpose (augmenting to by) rest = purpose.Augmenting (kept_target place to (augmentation_sign by ∷ rest)) (augmentation_op place by) (under_target place to (augmentation_sign by ∷ rest))

  abbrev pub held_word : g.Word → Word
  held_word pass_ = word.Pass
  held_word break_ = word.Break
  held_word continue_ = word.Continue

  abbrev pub held_lead : Texts → m.Lead → List Kind → Lead
  held_lead texts lead_if rest = lead.Branch []
  held_lead texts (lead_elif bs) rest = lead.Branch (kept_arms place texts bs (elif_word ∷ rest))
  held_lead texts lead_while rest = lead.While
  held_lead texts (lead_for vs) rest = lead.For (tree_variables vs) (variables_divided vs)

  -- the places of what has ended before the expression
  abbrev pub under_lead : m.Lead → List Kind → List ℕ
  under_lead (lead_elif bs) rest = under_branches place bs (elif_word ∷ rest)
  under_lead _ rest = []

  abbrev pub names_before : Option g.Names → List (List ℕ)
  names_before None = []
  names_before (Some ns) = tree_names ns

  -- a head before the tokens of its expression
  abbrev pub held_test : Texts → List m.Outer → Option Statements → m.Lead → List Kind → Test
  held_test texts os before l rest = record { begun = held_begun texts os before (spell_lead l rest); lead = held_lead texts l rest; under = under_lead l rest }

  -- where a line begins the branches that are last may go on

  abbrev pub line_done : Texts → Option Statements → List Kind → Done
  line_done texts (Some (statements_one (compound (choose c) b))) rest = nothing
  line_done texts (Some (statements_more ss (compound (choose c) b))) rest = held_done texts (Some ss) (spell_branches (g.branches c b) rest)
  line_done texts before rest = held_done texts before rest

  abbrev pub line_last : Texts → Option Statements → List Kind → Last
  line_last texts None rest = last.Nothing
  line_last texts (Some (statements_one (compound (choose c) b))) rest = last.Branches (held_branches texts (g.branches c b) rest)
  line_last texts (Some (statements_more ss (compound (choose c) b))) rest = last.Branches (held_branches texts (g.branches c b) rest)
  line_last texts (Some ss) rest = last.Other

  abbrev pub held_state : Texts → m.State → List Kind → State
  held_state texts (line os before) rest = h.Line (held_outers texts os (spell_front before rest)) (line_done texts before rest) (line_last texts before rest)
  held_state texts (in_simple os at u r) rest = h.InSimple (held_simple texts os at (spell_purpose u (spell_reading r rest))) (held_purpose u (spell_reading r rest)) (held place r rest)
  held_state texts (after_word os at w) rest = h.AfterWord (held_simple texts os at (keyword w ∷ rest)) (held_word w)
  held_state texts (in_global os at ns) rest = h.InGlobal (held_simple texts os at (global_word ∷ spell_names_before ns rest)) (names_before ns)
  held_state texts (has_global os at ns) rest = h.HasGlobal (held_simple texts os at (global_word ∷ spell_names ns rest)) (tree_names ns)
  held_state texts (in_test os before l r) rest = h.InTest (held_test texts os before l (spell_reading r rest)) (held place r rest)
  held_state texts (in_variables os before ns) rest = h.InVariables (held_begun texts os before (for_word ∷ spell_names_before ns rest)) (names_before ns)
  held_state texts (has_variables os before ns) rest = h.HasVariables (held_begun texts os before (for_word ∷ spell_names ns rest)) (tree_names ns)
  held_state texts (after_else os before bs) rest = h.AfterElse (held_outers texts os (spell_front before (spell_branches bs (else_word ∷ rest)))) (held_done texts before (spell_branches bs (else_word ∷ rest))) (held_branches texts bs (else_word ∷ rest))
  held_state texts (after_def before) rest = h.AfterDef (held_begun texts [] before (def_word ∷ rest))
  held_state texts (after_def_name before n) rest = h.AfterDefName (held_begun texts [] before (def_word ∷ t.Name n ∷ rest)) n
  held_state texts (in_params before n ns) rest = h.InParams (held_begun texts [] before (def_word ∷ t.Name n ∷ open_parenthesis ∷ spell_names_before ns rest)) n (names_before ns)
  held_state texts (has_params before n ns) rest = h.HasParams (held_begun texts [] before (def_word ∷ t.Name n ∷ open_parenthesis ∷ spell_names ns rest)) n (tree_names ns)
  held_state texts (after_params before n ps) rest = h.AfterParams (held_begun texts [] before (def_word ∷ t.Name n ∷ open_parenthesis ∷ spell_params ps (close_parenthesis ∷ rest))) n (tree_params ps)
  held_state texts (after_colon os o) rest = h.AfterColon (held_outers texts os (spell_outer o rest)) (held_outer texts os o rest)
  held_state texts (after_newline os o) rest = h.AfterNewline (held_outers texts os (spell_outer o (t.Newline ∷ rest))) (held_outer texts os o (t.Newline ∷ rest))
  held_state texts (done c) rest = h.End (held_done texts c (t.End ∷ rest))
