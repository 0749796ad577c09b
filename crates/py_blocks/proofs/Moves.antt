-- One more token of a cell, on what the program holds.
use Rattle.std.proofs.Common.{◌≡◌, ℕ, Bool, true, false, IsTrue, if◌then◌else◌, nat_lt, List, [], ◌∷◌, ◌++◌, length, zero, suc, lt-ltb, arith, Option, Some, None, refl, ap, ◌∙◌, sym, subst}
use Rattle.std.proofs.lemmas.Bool.{false≢true}
use Rattle.py_token.specs.declared.kinds.Kind.{Kind}
use Rattle.py_token.specs.declared.kinds.Kind.TheVariants as t
use Rattle.py_tree.specs.declared.statements.Stmt.{Stmt}
use Rattle.py_grammar.specs.Words.{if_word, else_word, elif_word, while_word, for_word, in_word, pass_word, break_word, continue_word, return_word, global_word, del_word, def_word, floor_assign_sign, plus_assign_sign, minus_assign_sign, times_assign_sign, mod_assign_sign, assign_sign, open_parenthesis, close_parenthesis, colon, comma}
use Rattle.py_grammar.specs.Expressions.{Expression, Exprs, single, spell_expression, spell_exprs}
use Rattle.py_grammar.specs.Readings as r
use Rattle.py_grammar.specs.Readings.{upper, lower, opened, listed, wants, has, has_none, has_not_none, begun, read, exprs_after, exprs_at, if_begun, whole, narrow, one_below, undivided}
use Rattle.py_grammar.specs.Open.{spell_reading}
use Rattle.py_grammar.specs.Statements as g
use Rattle.py_grammar.specs.Statements.{Params, no_params, params, params_comma, variables, variables_comma, names_one, names_more, simple, compound, choose, otherwise, while_true, for_each, define, if_true, else_if, inline, indented, declare, word, pass_, break_, continue_, Statements, statements_one, statements_more, spell_head, spell_block, spell_front, spell_simple, spell_targets, spell_target, augmentation_sign, by_plus, by_minus, by_times, by_floor, by_modulo}
use Rattle.py_grammar.specs.States as m
use Rattle.py_grammar.specs.States.{state_stands, outer, own, behind_head, showing, giving, deleting, assigning, augmenting, lead_if, lead_elif, lead_while, lead_for, line, in_simple, after_word, in_global, has_global, in_test, in_variables, has_variables, after_else, after_def, after_def_name, in_params, has_params, after_params, after_colon, after_newline, done, add_name, place_of, targets_of, head_of, spell_outer, spell_purpose, spell_lead, spell_spot}
use Rattle.py_grammar.specs.AloneMachine.{on_first, on_last}
use Rattle.py_grammar.specs.Trees.{tree_names, tree_params, variables_divided}
use Rattle.py_grammar.proofs.Spelled.{Adds, SpellsAll, read-adds, whole-spelled}
use Rattle.py_grammar.proofs.Stepped.{SpellsSimple, SpellsPlace, SpellsTargets, finished-spelled, targets_of-spelled, place_of-spelled}
use Rattle.py_frames.specs.declared.frames.State as reading
use Rattle.py_frames.specs.Held.{held, held_if, value_exprs, value_if}
use Rattle.py_frames.specs.Steps as e
use Rattle.py_frames.specs.declared.frames.State.TheVariants.{Wants, Has, Compared, AfterIs, AfterIsNot, AfterNot, AfterDot, AfterMethod}
use Rattle.py_frames.specs.declared.endings.Colon.TheVariants.{Goes, Ends}
use Rattle.py_frames.specs.Ends as ex
use Rattle.py_frames.specs.Ends.{is_narrow, is_undivided, either_of, colon_or_end}
use Rattle.py_frames.proofs.Stepped.{step-held}
use Rattle.py_frames.proofs.Outermost.{reading-narrow, reading-one}
use Rattle.py_frames.proofs.Wholes.{reading-ended}
use Rattle.py_blocks.specs.declared.state.Done.{Done}
use Rattle.py_blocks.specs.declared.state.Simple.{Simple}
use Rattle.py_blocks.specs.declared.state.Last.TheVariants as last
use Rattle.py_blocks.specs.declared.state.Lead.TheVariants as lead
use Rattle.py_blocks.specs.declared.state.State.{State}
use Rattle.py_blocks.specs.declared.state.State.TheVariants as h
use Rattle.py_blocks.specs.declared.simple.Sign.TheVariants as sign
use Rattle.py_blocks.specs.Blocks.{Texts, nothing, settled, closed, ended, around_of, spot_around, block_around}
use Rattle.py_blocks.specs.Kept.{augmentation_op, kept_simple, kept_block, under_simple, under_head, under_block}
use Rattle.py_blocks.specs.Held.{held_done, held_branches, held_word, held_around, held_head, held_outer, held_outers, held_spot, held_simple, held_begun, held_purpose, held_lead, held_test, line_done, line_last, names_before, held_state}
use Rattle.py_blocks.specs.Steps as st
use Rattle.py_blocks.specs.Steps.{Names, is_new_in, begins_word, begins_line, on_line_word, assignment, moves}
use Rattle.py_blocks.specs.Follows.{forms_step}
use Rattle.py_blocks.proofs.Parts.{held_one, sight_of, held_sight, sight-held, placed-held, held_made, finished-held}

module _ (place : ℕ → ℕ) where
  -- what is held of open forms, if there are any
  abbrev pub shown : Texts → List Kind → Option m.State → Option State
  shown texts rest None = None
  shown texts rest (Some u) = Some (held_state place texts u rest)

  pub allowed-shown : (texts : Texts) (b : Bool) (c : Bool) (u : m.State) (s : State) (rest : List Kind) → b ≡ c → s ≡ held_state place texts u rest → st.if_allowed b s ≡ shown texts rest (m.if_allowed c u)
  allowed-shown texts b true u s rest e f = ap (λ x. st.if_allowed x s) e ∙ ap Some f
  allowed-shown texts b false u s rest e f = ap (λ x. st.if_allowed x s) e

  -- ---- where it is

  around-held : (texts : Texts) (os : List m.Outer) (rest : List Kind) → around_of (held_outers place texts os rest) ≡ held_around place (m.around os)
  around-held texts [] rest = refl
  around-held texts (outer before hd ∷ os) rest = refl

  loop-held : (texts : Texts) (os : List m.Outer) (at : m.Spot) (rest : List Kind) → (spot_around (held_outers place texts os (spell_spot at rest)) (held_spot place texts os at rest)).in_loop ≡ (m.spot_around os at).in_loop
  loop-held texts [] (own before) rest = refl
  loop-held texts (outer b hd ∷ os) (own before) rest = refl
  loop-held texts os (behind_head (outer before hd)) rest = refl

  function-held : (texts : Texts) (os : List m.Outer) (at : m.Spot) (rest : List Kind) → (spot_around (held_outers place texts os (spell_spot at rest)) (held_spot place texts os at rest)).in_function ≡ (m.spot_around os at).in_function
  function-held texts [] (own before) rest = refl
  function-held texts (outer b hd ∷ os) (own before) rest = refl
  function-held texts os (behind_head (outer before hd)) rest = refl

  -- ---- what ends

  closed-held : (texts : Texts) (os : List m.Outer) (before : Option Statements) (hd : g.Head) (b : g.Block) (rest : List Kind)
      → closed texts (place (length rest)) (held_outers place texts os (spell_outer (outer before hd) (spell_block b rest))) (held_outer place texts os (outer before hd) (spell_block b rest)) (record { statements = kept_block place texts b rest; under = under_block place b rest })
      ≡ held_state place texts (line os (m.close (outer before hd) b)) rest
  closed-held texts os None (choose c) b rest = refl
  closed-held texts os None (otherwise bs) b rest = refl
  closed-held texts os None (while_true a) b rest = refl
  closed-held texts os None (for_each vs a) b rest = refl
  closed-held texts os None (define n ps) b rest = refl
  closed-held texts os (Some ss) (choose c) b rest = refl
  closed-held texts os (Some ss) (otherwise bs) b rest = refl
  closed-held texts os (Some ss) (while_true a) b rest = refl
  closed-held texts os (Some ss) (for_each vs a) b rest = refl
  closed-held texts os (Some ss) (define n ps) b rest = refl

  ended-held : (texts : Texts) (os : List m.Outer) (at : m.Spot) (x : g.Simple) (rest : List Kind)
      → ended texts (place (length rest)) (held_outers place texts os (spell_spot at (spell_simple x (t.Newline ∷ rest)))) (held_spot place texts os at (spell_simple x (t.Newline ∷ rest))) (place (length (spell_simple x (t.Newline ∷ rest)))) (kept_simple place x (t.Newline ∷ rest)) (under_simple place x (t.Newline ∷ rest))
      ≡ held_state place texts (m.ended os at x) rest
  ended-held texts os (own None) x rest = refl
  ended-held texts os (own (Some ss)) x rest = refl
  ended-held texts os (behind_head (outer before hd)) x rest = closed-held texts os before hd (inline x) rest

  -- ---- a simple statement

  ends-held : (texts : Texts) (os : List m.Outer) (at : m.Spot) (o : Option g.Simple) (f : List Kind → List Kind) (rest : List Kind) → SpellsSimple o f
      → st.ends texts (place (length rest)) (held_simple place texts os at (f (t.Newline ∷ rest))) (held_made place o (t.Newline ∷ rest)) ≡ shown texts rest (m.ends os at o)
  ends-held texts os at None f rest s = refl
  ends-held texts os at (Some x) f rest s =
      ap (λ ks. Some (ended texts (place (length rest)) (held_outers place texts os (spell_spot at ks)) (held_spot place texts os at ks) (place (length ks)) (kept_simple place x (t.Newline ∷ rest)) (under_simple place x (t.Newline ∷ rest)))) (sym (s (t.Newline ∷ rest)))
      ∙ ap Some (ended-held texts os at x rest)

  -- its expression goes on
  goes_on-held : (texts : Texts) (os : List m.Outer) (at : m.Spot) (u : m.Purpose) (f : List Kind → List Kind) (t : Kind) (o : Option r.Reading) (rest : List Kind) → Adds f t o
      → st.goes_on (held_simple place texts os at (spell_purpose u (f (t ∷ rest)))) (held_purpose place u (f (t ∷ rest))) (held_if place o rest) ≡ shown texts rest (m.then_simple os at u o)
  goes_on-held texts os at u f t None rest a = refl
  goes_on-held texts os at showing f t (Some x) rest a = ap (λ ks. Some (h.InSimple (held_simple place texts os at ks) (held_purpose place showing ks) (held place x rest))) (sym (a rest))
  goes_on-held texts os at giving f t (Some x) rest a = ap (λ ks. Some (h.InSimple (held_simple place texts os at (return_word ∷ ks)) (held_purpose place giving ks) (held place x rest))) (sym (a rest))
  goes_on-held texts os at deleting f t (Some x) rest a =
      allowed-shown texts (is_narrow (held place x rest)) (narrow x) (in_simple os at deleting x) _ rest (reading-narrow place x rest) (ap (λ ks. h.InSimple (held_simple place texts os at (del_word ∷ ks)) (held_purpose place deleting ks) (held place x rest)) (sym (a rest)))
  goes_on-held texts os at (assigning ts) f t (Some x) rest a = ap (λ ks. Some (h.InSimple (held_simple place texts os at (spell_purpose (assigning ts) ks)) (held_purpose place (assigning ts) ks) (held place x rest))) (sym (a rest))
  goes_on-held texts os at (augmenting to by) f t (Some x) rest a = ap (λ ks. Some (h.InSimple (held_simple place texts os at (spell_purpose (augmenting to by) ks)) (held_purpose place (augmenting to by) ks) (held place x rest))) (sym (a rest))

  reads-held : (texts : Texts) (os : List m.Outer) (at : m.Spot) (u : m.Purpose) (x : r.Reading) (t : Kind) (rest : List Kind)
      → st.goes_on (held_simple place texts os at (spell_purpose u (spell_reading x (t ∷ rest)))) (held_purpose place u (spell_reading x (t ∷ rest))) (e.step (held place x (t ∷ rest)) t (place (length (t ∷ rest)))) ≡ shown texts rest (m.then_simple os at u (read x t))
  reads-held texts os at u x t rest = ap (st.goes_on _ _) (step-held place x t rest) ∙ goes_on-held texts os at u (spell_reading x) t (read x t) rest (read-adds x t)

  begins-held : (texts : Texts) (os : List m.Outer) (at : m.Spot) (t : Kind) (rest : List Kind) → st.begins (place (length (t ∷ rest))) (held_simple place texts os at (t ∷ rest)) t ≡ shown texts rest (m.begins os at t)
  unfolding begins_word
  begins-held texts os at pass_word rest = refl
  begins-held texts os at break_word rest = allowed-shown texts _ (m.spot_around os at).in_loop (after_word os at break_) _ rest (loop-held texts os at _) refl
  begins-held texts os at continue_word rest = allowed-shown texts _ (m.spot_around os at).in_loop (after_word os at continue_) _ rest (loop-held texts os at _) refl
  begins-held texts os at return_word rest = allowed-shown texts _ (m.spot_around os at).in_function (in_simple os at giving begun) _ rest (function-held texts os at _) refl
  begins-held texts os at global_word rest = allowed-shown texts _ (m.spot_around os at).in_function (in_global os at None) _ rest (function-held texts os at _) refl
  begins-held texts os at del_word rest = refl
  begins-held texts os at t rest = reads-held texts os at showing begun t rest

  assigns-held : (texts : Texts) (os : List m.Outer) (at : m.Spot) (o : Option g.Targets) (f : List Kind → List Kind) (rest : List Kind) → SpellsTargets o f
      → st.assigns (held_simple place texts os at (f (assign_sign ∷ rest))) (held_sight place o (assign_sign ∷ rest)) ≡ shown texts rest (m.assigns os at showing o)
  assigns-held texts os at None f rest s = refl
  assigns-held texts os at (Some ts) f rest s = ap (λ ks. st.assigns (held_simple place texts os at ks) (Some (sight_of place ts (assign_sign ∷ rest)))) (sym (s (assign_sign ∷ rest)))

  augments-held : (texts : Texts) (os : List m.Outer) (at : m.Spot) (by : g.Augmentation) (o : Option g.Target) (f : List Kind → List Kind) (rest : List Kind) → SpellsPlace o f
      → st.augments (held_simple place texts os at (f (augmentation_sign by ∷ rest))) (augmentation_op place by) (held_one place o (augmentation_sign by ∷ rest)) ≡ shown texts rest (m.augments os at by showing o)
  augments-held texts os at by None f rest s = refl
  augments-held texts os at by (Some to) f rest s = ap (λ ks. st.augments (held_simple place texts os at ks) (augmentation_op place by) (held_one place (Some to) (augmentation_sign by ∷ rest))) (sym (s (augmentation_sign by ∷ rest)))

  assign-held : (texts : Texts) (os : List m.Outer) (at : m.Spot) (u : m.Purpose) (x : r.Reading) (rest : List Kind)
      → st.if_showing (held_purpose place u (spell_reading x (assign_sign ∷ rest))) (st.signed (held_simple place texts os at (spell_purpose u (spell_reading x (assign_sign ∷ rest)))) sign.Assign (held place x (assign_sign ∷ rest))) ≡ shown texts rest (m.assigns os at u (targets_of (whole x)))
  assign-held texts os at showing x rest =
      ap (st.assigns (held_simple place texts os at (spell_reading x (assign_sign ∷ rest)))) (sight-held place x (assign_sign ∷ rest)) ∙ assigns-held texts os at (targets_of (whole x)) (spell_reading x) rest (targets_of-spelled (whole x) (spell_reading x) (whole-spelled x))
  assign-held texts os at giving x rest = refl
  assign-held texts os at deleting x rest = refl
  assign-held texts os at (assigning ts) x rest = refl
  assign-held texts os at (augmenting to by) x rest = refl

  augment-held : (texts : Texts) (os : List m.Outer) (at : m.Spot) (by : g.Augmentation) (u : m.Purpose) (x : r.Reading) (rest : List Kind)
      → st.if_showing (held_purpose place u (spell_reading x (augmentation_sign by ∷ rest))) (st.signed (held_simple place texts os at (spell_purpose u (spell_reading x (augmentation_sign by ∷ rest)))) (sign.Augment (augmentation_op place by)) (held place x (augmentation_sign by ∷ rest)))
      ≡ shown texts rest (m.augments os at by u (place_of (whole x)))
  augment-held texts os at by showing x rest =
      ap (st.augments (held_simple place texts os at (spell_reading x (augmentation_sign by ∷ rest))) (augmentation_op place by)) (placed-held place x (augmentation_sign by ∷ rest)) ∙ augments-held texts os at by (place_of (whole x)) (spell_reading x) rest (place_of-spelled (whole x) (spell_reading x) (whole-spelled x))
  augment-held texts os at by giving x rest = refl
  augment-held texts os at by deleting x rest = refl
  augment-held texts os at by (assigning ts) x rest = refl
  augment-held texts os at by (augmenting to other) x rest = refl

  on_simple-held : (texts : Texts) (os : List m.Outer) (at : m.Spot) (u : m.Purpose) (x : r.Reading) (t : Kind) (rest : List Kind)
      → st.on_simple texts (place (length (t ∷ rest))) (place (length rest)) (held_simple place texts os at (spell_purpose u (spell_reading x (t ∷ rest)))) (held_purpose place u (spell_reading x (t ∷ rest))) (held place x (t ∷ rest)) t ≡ shown texts rest (m.on_simple os at u x t)
  unfolding assignment
  on_simple-held texts os at u x t.Newline rest =
      ap (st.ends texts (place (length rest)) (held_simple place texts os at (spell_purpose u (spell_reading x (t.Newline ∷ rest))))) (finished-held place u x (t.Newline ∷ rest)) ∙ ends-held texts os at (m.finished u x) (λ rest. spell_purpose u (spell_reading x rest)) rest (finished-spelled u x)
  on_simple-held texts os at u x assign_sign rest = assign-held texts os at u x rest
  on_simple-held texts os at u x plus_assign_sign rest = augment-held texts os at by_plus u x rest
  on_simple-held texts os at u x minus_assign_sign rest = augment-held texts os at by_minus u x rest
  on_simple-held texts os at u x times_assign_sign rest = augment-held texts os at by_times u x rest
  on_simple-held texts os at u x floor_assign_sign rest = augment-held texts os at by_floor u x rest
  on_simple-held texts os at u x mod_assign_sign rest = augment-held texts os at by_modulo u x rest
  on_simple-held texts os at u x t rest = reads-held texts os at u x t rest

  -- ---- heads

  block_around-held : (texts : Texts) (hd : g.Head) (a : g.Around) (rest : List Kind) → block_around (held_head place texts hd rest) (held_around place a) ≡ held_around place (g.inside hd a)
  block_around-held texts (choose c) a rest = refl
  block_around-held texts (otherwise bs) a rest = refl
  block_around-held texts (while_true x) a rest = refl
  block_around-held texts (for_each vs x) a rest = refl
  block_around-held texts (define n ps) a rest = refl

  -- a head, and where its block is
  opens-held : (texts : Texts) (os : List m.Outer) (before : Option Statements) (hd : g.Head) (rest : List Kind)
      → st.opens (held_begun place texts os before (spell_head hd rest)) (under_head place hd rest) (held_head place texts hd rest) ≡ held_state place texts (after_colon os (outer before hd)) rest
  opens-held texts os before hd rest =
      ap (λ a. h.AfterColon (held_outers place texts os (spell_front before (spell_head hd rest))) (record { before = held_done place texts before (spell_head hd rest); from = place (length (spell_head hd rest)); under = under_head place hd rest; head = held_head place texts hd rest; around = a }))
      (ap (block_around (held_head place texts hd rest)) (around-held texts os (spell_front before (spell_head hd rest))) ∙ block_around-held texts hd (m.around os) rest)

  fits-held : (texts : Texts) (l : m.Lead) (x : r.Reading) (rest more : List Kind) → st.fits (held_lead place texts l more) (held place x rest) ≡ m.fits l x
  fits-held texts lead_if x rest more = reading-one place x rest
  fits-held texts (lead_elif bs) x rest more = reading-one place x rest
  fits-held texts lead_while x rest more = reading-one place x rest
  fits-held texts (lead_for vs) x rest more = refl

  -- its expression goes on
  test-goes_on : (texts : Texts) (os : List m.Outer) (before : Option Statements) (l : m.Lead) (f : List Kind → List Kind) (t : Kind) (x : r.Reading) (rest : List Kind) → f (t ∷ rest) ≡ spell_reading x rest
      → st.test_goes_on (held_test place texts os before l (f (t ∷ rest))) (Some (held place x rest)) ≡ shown texts rest (m.if_allowed (m.fits l x) (in_test os before l x))
  test-goes_on texts os before l f t x rest a =
      allowed-shown texts _ (m.fits l x) (in_test os before l x) _ rest (fits-held texts l x rest (f (t ∷ rest))) (ap (λ ks. h.InTest (held_test place texts os before l ks) (held place x rest)) a)

  -- what has only begun is none
  begun-none : (u : r.Upper) (w : r.Lower) → if_begun u w None ≡ None
  begun-none (upper [] None None None zero) (lower None None None []) = refl
  begun-none _ _ = refl

  -- outside all brackets no `:` belongs to an expression that may end
  stops : (x : r.Reading) (a : Exprs) → whole x ≡ Some a → read x colon ≡ None
  stops (has [] u w p) a e = refl
  stops (has (listed es ∷ []) u w p) a e = refl
  stops (has_none [] u c) a e = refl
  stops (has_none (listed es ∷ []) u c) a e = refl
  stops (has_not_none [] u c) a e = refl
  stops (has_not_none (listed es ∷ []) u c) a e = refl
  stops (wants (listed es ∷ []) (upper [] None None None zero) (lower None None None [])) a e = refl
  stops (wants [] u w) a e = let n = begun-none u w in let no : ⊥ = cc in absurd no
  stops (wants (opened v x b ∷ os) u w) a e = let n = begun-none u w in let no : ⊥ = cc in absurd no
  stops (wants (listed es ∷ o ∷ os) u w) a e = let n = begun-none u w in let no : ⊥ = cc in absurd no
  stops _ a e = cc

  colon-either : (s : reading.State) (n : ℕ) → colon_or_end s ≡ either_of (ex.ended s) (e.step s colon n)
  colon-either (Wants fs) n = refl
  colon-either (Has fs v) n = refl
  colon-either (Compared fs c) n = refl
  colon-either (AfterIs fs c) n = refl
  colon-either (AfterIsNot fs c) n = refl
  colon-either (AfterNot fs c) n = refl
  colon-either (AfterDot fs v) n = refl
  colon-either (AfterMethod fs v m) n = refl

  colon-seen : (x : r.Reading) (rest : List Kind) → colon_or_end (held place x (colon ∷ rest)) ≡ either_of (value_if place (whole x) (colon ∷ rest)) (held_if place (read x colon) rest)
  colon-seen x rest = colon-either (held place x (colon ∷ rest)) (place (length (colon ∷ rest))) ∙ ap (λ v. either_of v (e.step (held place x (colon ∷ rest)) colon (place (length (colon ∷ rest))))) (reading-ended place x (colon ∷ rest)) ∙ ap (either_of (value_if place (whole x) (colon ∷ rest))) (step-held place x colon rest)

  -- what is undivided is no tuple
  after-single : (os : List r.Opened) (o : Option Expression) (a : Exprs) → exprs_after os o ≡ Some a → IsTrue (one_below os) → (b : Expression) × (a ≡ single b)
  after-single [] None a e h = let no : ⊥ = cc in absurd no
  after-single [] (Some x) a e h = (x, cc)
  after-single (listed xs ∷ []) o a e h = absurd (false≢true h)
  after-single _ o a e h = let no : ⊥ = cc in absurd no

  at-single : (os : List r.Opened) (u : r.Upper) (w : r.Lower) (a : Exprs) → if_begun u w (exprs_at os) ≡ Some a → IsTrue (one_below os) → (b : Expression) × (a ≡ single b)
  at-single (listed xs ∷ []) u w a e h = absurd (false≢true h)
  at-single [] u w a e h = let n = begun-none u w in let no : ⊥ = cc in absurd no
  at-single _ u w a e h = let n = begun-none u w in let no : ⊥ = cc in absurd no

  single-of : (x : r.Reading) (a : Exprs) → whole x ≡ Some a → IsTrue (undivided x) → (b : Expression) × (a ≡ single b)
  single-of (wants os u w) a e h = at-single os u w a e h
  single-of (has os u w p) a e h = after-single os _ a e h
  single-of (has_none os u c) a e h = after-single os _ a e h
  single-of (has_not_none os u c) a e h = after-single os _ a e h
  single-of _ a e h = let no : ⊥ = cc in absurd no

  -- a head ends with its expression
  if-ends : (texts : Texts) (os : List m.Outer) (before : Option Statements) (b : Expression) (rest : List Kind)
      → st.colon_behind (held_test place texts os before lead_if (spell_expression b (colon ∷ rest))) (Some (Ends (value_exprs place (single b) (colon ∷ rest)))) ≡ shown texts rest (m.tested os before (head_of lead_if (Some (single b))) colon)
  if-ends texts os before b rest = ap Some (opens-held texts os before (choose (if_true b)) rest)

  elif-ends : (texts : Texts) (os : List m.Outer) (before : Option Statements) (bs : g.Branches) (b : Expression) (rest : List Kind)
      → st.colon_behind (held_test place texts os before (lead_elif bs) (spell_expression b (colon ∷ rest))) (Some (Ends (value_exprs place (single b) (colon ∷ rest)))) ≡ shown texts rest (m.tested os before (head_of (lead_elif bs) (Some (single b))) colon)
  elif-ends texts os before bs b rest = ap Some (opens-held texts os before (choose (else_if bs b)) rest)

  while-ends : (texts : Texts) (os : List m.Outer) (before : Option Statements) (b : Expression) (rest : List Kind)
      → st.colon_behind (held_test place texts os before lead_while (spell_expression b (colon ∷ rest))) (Some (Ends (value_exprs place (single b) (colon ∷ rest)))) ≡ shown texts rest (m.tested os before (head_of lead_while (Some (single b))) colon)
  while-ends texts os before b rest = ap Some (opens-held texts os before (while_true b) rest)

  for-ends : (texts : Texts) (os : List m.Outer) (before : Option Statements) (vs : g.Variables) (a : Exprs) (rest : List Kind)
      → st.colon_behind (held_test place texts os before (lead_for vs) (spell_exprs a (colon ∷ rest))) (Some (Ends (value_exprs place a (colon ∷ rest)))) ≡ shown texts rest (m.tested os before (head_of (lead_for vs) (Some a)) colon)
  for-ends texts os before vs a rest = ap Some (opens-held texts os before (for_each vs a) rest)

  test-ends : (texts : Texts) (os : List m.Outer) (before : Option Statements) (l : m.Lead) (x : r.Reading) (a : Exprs) (rest : List Kind) → whole x ≡ Some a → IsTrue (m.fits l x)
      → st.colon_behind (held_test place texts os before l (spell_exprs a (colon ∷ rest))) (Some (Ends (value_exprs place a (colon ∷ rest)))) ≡ shown texts rest (m.tested os before (head_of l (Some a)) colon)
  test-ends texts os before lead_if x a rest e h = let b = single-of x a e h in subst (λ y. st.colon_behind (held_test place texts os before lead_if (spell_exprs y (colon ∷ rest))) (Some (Ends (value_exprs place y (colon ∷ rest)))) ≡ shown texts rest (m.tested os before (head_of lead_if (Some y)) colon)) (sym b.1) (if-ends texts os before b.0 rest)
  test-ends texts os before (lead_elif bs) x a rest e h = let b = single-of x a e h in subst (λ y. st.colon_behind (held_test place texts os before (lead_elif bs) (spell_exprs y (colon ∷ rest))) (Some (Ends (value_exprs place y (colon ∷ rest)))) ≡ shown texts rest (m.tested os before (head_of (lead_elif bs) (Some y)) colon)) (sym b.1) (elif-ends texts os before bs b.0 rest)
  test-ends texts os before lead_while x a rest e h = let b = single-of x a e h in subst (λ y. st.colon_behind (held_test place texts os before lead_while (spell_exprs y (colon ∷ rest))) (Some (Ends (value_exprs place y (colon ∷ rest)))) ≡ shown texts rest (m.tested os before (head_of lead_while (Some y)) colon)) (sym b.1) (while-ends texts os before b.0 rest)
  test-ends texts os before (lead_for vs) x a rest e h = for-ends texts os before vs a rest

  headless : (texts : Texts) (os : List m.Outer) (before : Option Statements) (l : m.Lead) (t : Kind) (rest : List Kind) → shown texts rest (m.tested os before (head_of l None) t) ≡ None
  headless texts os before lead_if t rest = refl
  headless texts os before (lead_elif bs) t rest = refl
  headless texts os before lead_while t rest = refl
  headless texts os before (lead_for vs) t rest = refl

  colon-on : (texts : Texts) (os : List m.Outer) (before : Option Statements) (l : m.Lead) (x : r.Reading) (rest : List Kind) (w : Option Exprs) (o : Option r.Reading) → whole x ≡ w → read x colon ≡ o → IsTrue (m.fits l x)
      → st.colon_behind (held_test place texts os before l (spell_reading x (colon ∷ rest))) (either_of (value_if place w (colon ∷ rest)) (held_if place o rest)) ≡ shown texts rest (m.then_test os before l x colon o)
  colon-on texts os before l x rest (Some a) (Some y) e f h = let s = stops x a e in let no : ⊥ = cc in absurd no
  colon-on texts os before l x rest (Some a) None e f h =
      ap (λ ks. st.colon_behind (held_test place texts os before l ks) (Some (Ends (value_exprs place a (colon ∷ rest))))) (sym (subst (λ w. SpellsAll w (spell_reading x)) e (whole-spelled x) (colon ∷ rest)))
      ∙ test-ends texts os before l x a rest e h ∙ ap (λ w. shown texts rest (m.tested os before (head_of l w) colon)) (sym e)
  colon-on texts os before l x rest None None e f h = sym (ap (λ w. shown texts rest (m.tested os before (head_of l w) colon)) e ∙ headless texts os before l colon rest)
  colon-on texts os before l x rest None (Some y) e f h = test-goes_on texts os before l (spell_reading x) colon y rest (sym (subst (λ o. Adds (spell_reading x) colon o) f (read-adds x colon) rest))

  -- only a `:` ends a head
  abbrev NoTest : List m.Outer → Option Statements → Option g.Head → Kind → Type 0
  NoTest os before w colon = Unit {0}
  NoTest os before w t = m.tested os before w t ≡ None

  no_test : (os : List m.Outer) (before : Option Statements) (w : Option g.Head) (t : Kind) → NoTest os before w t
  no_test os before w colon = tt
  no_test os before None t = refl
  no_test os before (Some a) t = refl

  test-on : (texts : Texts) (os : List m.Outer) (before : Option Statements) (l : m.Lead) (x : r.Reading) (t : Kind) (rest : List Kind) (o : Option r.Reading) → read x t ≡ o → m.tested os before (head_of l (whole x)) t ≡ None
      → st.test_goes_on (held_test place texts os before l (spell_reading x (t ∷ rest))) (held_if place o rest) ≡ shown texts rest (m.then_test os before l x t o)
  test-on texts os before l x t rest None f n = sym (ap (shown texts rest) n)
  test-on texts os before l x t rest (Some y) f n = test-goes_on texts os before l (spell_reading x) t y rest (sym (subst (λ o. Adds (spell_reading x) t o) f (read-adds x t) rest))

  test-held : (texts : Texts) (os : List m.Outer) (before : Option Statements) (l : m.Lead) (x : r.Reading) (t : Kind) (rest : List Kind) → m.tested os before (head_of l (whole x)) t ≡ None
      → st.test_goes_on (held_test place texts os before l (spell_reading x (t ∷ rest))) (e.step (held place x (t ∷ rest)) t (place (length (t ∷ rest)))) ≡ shown texts rest (m.then_test os before l x t (read x t))
  test-held texts os before l x t rest n = ap (st.test_goes_on (held_test place texts os before l (spell_reading x (t ∷ rest)))) (step-held place x t rest) ∙ test-on texts os before l x t rest (read x t) refl n

  on_test-held : (texts : Texts) (os : List m.Outer) (before : Option Statements) (l : m.Lead) (x : r.Reading) (t : Kind) (rest : List Kind) → IsTrue (m.fits l x)
      → st.on_test (place (length (t ∷ rest))) (held_test place texts os before l (spell_reading x (t ∷ rest))) (held place x (t ∷ rest)) t ≡ shown texts rest (m.then_test os before l x t (read x t))
  on_test-held texts os before l x colon rest h = ap (st.colon_behind (held_test place texts os before l (spell_reading x (colon ∷ rest)))) (colon-seen x rest) ∙ colon-on texts os before l x rest (whole x) (read x colon) refl refl h
  on_test-held texts os before l x t rest h = test-held texts os before l x t rest (no_test os before (head_of l (whole x)) t)

  -- ---- the statement before

  settled-held : (texts : Texts) (before : Option Statements) (rest : List Kind) → settled (line_done place texts before rest) (line_last place texts before rest) ≡ held_done place texts before rest
  settled-held texts None rest = refl
  settled-held texts (Some (statements_one (simple x))) rest = refl
  settled-held texts (Some (statements_one (compound (choose c) b))) rest = refl
  settled-held texts (Some (statements_one (compound (otherwise bs) b))) rest = refl
  settled-held texts (Some (statements_one (compound (while_true a) b))) rest = refl
  settled-held texts (Some (statements_one (compound (for_each vs a) b))) rest = refl
  settled-held texts (Some (statements_one (compound (define n ps) b))) rest = refl
  settled-held texts (Some (statements_more ss (simple x))) rest = refl
  settled-held texts (Some (statements_more ss (compound (choose c) b))) rest = refl
  settled-held texts (Some (statements_more ss (compound (otherwise bs) b))) rest = refl
  settled-held texts (Some (statements_more ss (compound (while_true a) b))) rest = refl
  settled-held texts (Some (statements_more ss (compound (for_each vs a) b))) rest = refl
  settled-held texts (Some (statements_more ss (compound (define n ps) b))) rest = refl

  elif_at-held : (texts : Texts) (os : List m.Outer) (before : Option Statements) (rest : List Kind)
      → st.elif_at (held_outers place texts os (spell_front before (elif_word ∷ rest))) (line_done place texts before (elif_word ∷ rest)) (line_last place texts before (elif_word ∷ rest)) ≡ shown texts rest (m.elif_at os (m.last_branches before))
  elif_at-held texts os None rest = refl
  elif_at-held texts os (Some (statements_one (simple x))) rest = refl
  elif_at-held texts os (Some (statements_one (compound (choose c) b))) rest = refl
  elif_at-held texts os (Some (statements_one (compound (otherwise bs) b))) rest = refl
  elif_at-held texts os (Some (statements_one (compound (while_true a) b))) rest = refl
  elif_at-held texts os (Some (statements_one (compound (for_each vs a) b))) rest = refl
  elif_at-held texts os (Some (statements_one (compound (define n ps) b))) rest = refl
  elif_at-held texts os (Some (statements_more ss (simple x))) rest = refl
  elif_at-held texts os (Some (statements_more ss (compound (choose c) b))) rest = refl
  elif_at-held texts os (Some (statements_more ss (compound (otherwise bs) b))) rest = refl
  elif_at-held texts os (Some (statements_more ss (compound (while_true a) b))) rest = refl
  elif_at-held texts os (Some (statements_more ss (compound (for_each vs a) b))) rest = refl
  elif_at-held texts os (Some (statements_more ss (compound (define n ps) b))) rest = refl

  else_at-held : (texts : Texts) (os : List m.Outer) (before : Option Statements) (rest : List Kind)
      → st.else_at (held_outers place texts os (spell_front before (else_word ∷ rest))) (line_done place texts before (else_word ∷ rest)) (line_last place texts before (else_word ∷ rest)) ≡ shown texts rest (m.else_at os (m.last_branches before))
  else_at-held texts os None rest = refl
  else_at-held texts os (Some (statements_one (simple x))) rest = refl
  else_at-held texts os (Some (statements_one (compound (choose c) b))) rest = refl
  else_at-held texts os (Some (statements_one (compound (otherwise bs) b))) rest = refl
  else_at-held texts os (Some (statements_one (compound (while_true a) b))) rest = refl
  else_at-held texts os (Some (statements_one (compound (for_each vs a) b))) rest = refl
  else_at-held texts os (Some (statements_one (compound (define n ps) b))) rest = refl
  else_at-held texts os (Some (statements_more ss (simple x))) rest = refl
  else_at-held texts os (Some (statements_more ss (compound (choose c) b))) rest = refl
  else_at-held texts os (Some (statements_more ss (compound (otherwise bs) b))) rest = refl
  else_at-held texts os (Some (statements_more ss (compound (while_true a) b))) rest = refl
  else_at-held texts os (Some (statements_more ss (compound (for_each vs a) b))) rest = refl
  else_at-held texts os (Some (statements_more ss (compound (define n ps) b))) rest = refl

  -- a block has a statement
  is_something : (texts : Texts) (ss : Statements) (rest : List Kind) → st.is_nothing (line_last place texts (Some ss) rest) ≡ false
  is_something texts (statements_one (simple x)) rest = refl
  is_something texts (statements_one (compound (choose c) b)) rest = refl
  is_something texts (statements_one (compound (otherwise bs) b)) rest = refl
  is_something texts (statements_one (compound (while_true a) b)) rest = refl
  is_something texts (statements_one (compound (for_each vs a) b)) rest = refl
  is_something texts (statements_one (compound (define n ps) b)) rest = refl
  is_something texts (statements_more ss (simple x)) rest = refl
  is_something texts (statements_more ss (compound (choose c) b)) rest = refl
  is_something texts (statements_more ss (compound (otherwise bs) b)) rest = refl
  is_something texts (statements_more ss (compound (while_true a) b)) rest = refl
  is_something texts (statements_more ss (compound (for_each vs a) b)) rest = refl
  is_something texts (statements_more ss (compound (define n ps) b)) rest = refl

  def_at-held : (texts : Texts) (os : List m.Outer) (before : Option Statements) (rest : List Kind) → st.def_at (place (length (def_word ∷ rest))) (held_outers place texts os (spell_front before (def_word ∷ rest))) (held_done place texts before (def_word ∷ rest)) ≡ shown texts rest (m.def_at os before)
  def_at-held texts [] before rest = refl
  def_at-held texts (o ∷ os) before rest = refl

  end_at-held : (texts : Texts) (os : List m.Outer) (before : Option Statements) (rest : List Kind) → st.end_at (held_outers place texts os (spell_front before (t.End ∷ rest))) (held_done place texts before (t.End ∷ rest)) ≡ shown texts rest (m.end_at os before)
  end_at-held texts [] before rest = refl
  end_at-held texts (o ∷ os) before rest = refl

  if_false : {A : Type 0} (b : Bool) (x y : A) → b ≡ false → (if b then x else y) ≡ y
  if_false b x y same = ap (λ c. if c then x else y) same

  dedent_at-held : (texts : Texts) (os : List m.Outer) (before : Option Statements) (rest : List Kind)
      → st.dedent_at texts (place (length rest)) (held_outers place texts os (spell_front before (t.Dedent ∷ rest))) (line_done place texts before (t.Dedent ∷ rest)) (line_last place texts before (t.Dedent ∷ rest)) ≡ shown texts rest (m.dedent_at os before)
  dedent_at-held texts [] before rest = refl
  dedent_at-held texts (o ∷ os) None rest = refl
  dedent_at-held texts (outer b hd ∷ os) (Some ss) rest =
      if_false _ None _ (is_something texts ss (t.Dedent ∷ rest))
      ∙ ap (λ d. Some (closed texts (place (length rest)) (held_outers place texts os (spell_outer (outer b hd) (spell_block (indented ss) rest))) (held_outer place texts os (outer b hd) (spell_block (indented ss) rest)) d)) (settled-held texts (Some ss) (t.Dedent ∷ rest))
      ∙ ap Some (closed-held texts os b hd (indented ss) rest)

  -- ---- lines

  on_line-held : (texts : Texts) (os : List m.Outer) (before : Option Statements) (t : Kind) (rest : List Kind)
      → st.on_line texts (place (length (t ∷ rest))) (place (length rest)) (held_outers place texts os (spell_front before (t ∷ rest))) (line_done place texts before (t ∷ rest)) (line_last place texts before (t ∷ rest)) t ≡ shown texts rest (m.on_line os before t)
  unfolding on_line_word begins_line
  on_line-held texts os before if_word rest = ap (λ d. Some (st.test_at (held_outers place texts os (spell_front before (if_word ∷ rest))) d (place (length (if_word ∷ rest))) (lead.Branch []) [])) (settled-held texts before (if_word ∷ rest))
  on_line-held texts os before elif_word rest = elif_at-held texts os before rest
  on_line-held texts os before else_word rest = else_at-held texts os before rest
  on_line-held texts os before while_word rest = ap (λ d. Some (st.test_at (held_outers place texts os (spell_front before (while_word ∷ rest))) d (place (length (while_word ∷ rest))) lead.While [])) (settled-held texts before (while_word ∷ rest))
  on_line-held texts os before for_word rest = ap (λ d. Some (h.InVariables (st.begun_at (held_outers place texts os (spell_front before (for_word ∷ rest))) d (place (length (for_word ∷ rest)))) [])) (settled-held texts before (for_word ∷ rest))
  on_line-held texts os before def_word rest = ap (st.def_at (place (length (def_word ∷ rest))) (held_outers place texts os (spell_front before (def_word ∷ rest)))) (settled-held texts before (def_word ∷ rest)) ∙ def_at-held texts os before rest
  on_line-held texts os before t.Dedent rest = dedent_at-held texts os before rest
  on_line-held texts os before t.End rest = ap (st.end_at (held_outers place texts os (spell_front before (t.End ∷ rest)))) (settled-held texts before (t.End ∷ rest)) ∙ end_at-held texts os before rest
  on_line-held texts os before t rest = ap (λ d. st.begins (place (length (t ∷ rest))) (st.own (place (length (t ∷ rest))) (held_outers place texts os (spell_front before (t ∷ rest))) d) t) (settled-held texts before (t ∷ rest)) ∙ begins-held texts os (own before) t rest

  first-held : (texts : Texts) (t : Kind) (rest : List Kind) → (if st.is_def t then st.on_line texts (place (length (t ∷ rest))) (place (length rest)) [] nothing last.Nothing t else None) ≡ shown texts rest (on_first t)
  unfolding on_line_word begins_line
  first-held texts def_word rest = refl
  first-held texts _ rest = refl

  last-held : (texts : Texts) (ss : Statements) (t : Kind) (rest : List Kind)
      → (if st.is_end t then st.on_line texts (place (length (t ∷ rest))) (place (length rest)) [] (line_done place texts (Some ss) (t ∷ rest)) (line_last place texts (Some ss) (t ∷ rest)) t else None) ≡ shown texts rest (on_last ss t)
  last-held texts ss t.End rest = ap (λ d. Some (h.End d)) (settled-held texts (Some ss) (t.End ∷ rest))
  last-held texts ss _ rest = refl

  line-held : (alone : Bool) (texts : Texts) (os : List m.Outer) (before : Option Statements) (t : Kind) (rest : List Kind)
      → st.on_any_line alone texts (place (length (t ∷ rest))) (place (length rest)) (held_outers place texts os (spell_front before (t ∷ rest))) (line_done place texts before (t ∷ rest)) (line_last place texts before (t ∷ rest)) t ≡ shown texts rest (forms_step alone (line os before) t)
  line-held false texts os before t rest = on_line-held texts os before t rest
  line-held true texts (o ∷ os) before t rest = on_line-held texts (o ∷ os) before t rest
  line-held true texts [] None t rest = first-held texts t rest
  line-held true texts [] (Some ss) t rest =
      ap (λ b. if (if b then st.is_def t else st.is_end t) then st.on_line texts (place (length (t ∷ rest))) (place (length rest)) [] (line_done place texts (Some ss) (t ∷ rest)) (line_last place texts (Some ss) (t ∷ rest)) t else None) (is_something texts ss (t ∷ rest)) ∙ last-held texts ss t rest

  -- ---- the other states

  on_word-held : (texts : Texts) (os : List m.Outer) (at : m.Spot) (w : g.Word) (t : Kind) (rest : List Kind) → st.on_word texts (place (length rest)) (held_simple place texts os at (g.keyword w ∷ t ∷ rest)) (held_word place w) t ≡ shown texts rest (m.on_word os at w t)
  on_word-held texts os at pass_ t.Newline rest = ap Some (ended-held texts os at (word pass_) rest)
  on_word-held texts os at break_ t.Newline rest = ap Some (ended-held texts os at (word break_) rest)
  on_word-held texts os at continue_ t.Newline rest = ap Some (ended-held texts os at (word continue_) rest)
  on_word-held texts os at w t rest = refl

  on_global_name-held : (texts : Texts) (os : List m.Outer) (at : m.Spot) (ns : g.Names) (t : Kind) (rest : List Kind) → st.on_global_name texts (place (length rest)) (held_simple place texts os at (global_word ∷ g.spell_names ns (t ∷ rest))) (tree_names ns) t ≡ shown texts rest (m.on_global_name os at ns t)
  on_global_name-held texts os at ns comma rest = refl
  on_global_name-held texts os at ns t.Newline rest = ap Some (ended-held texts os at (declare ns) rest)
  on_global_name-held texts os at ns t rest = refl

  not-empty : (ns : g.Names) → st.is_empty (tree_names ns) ≡ false
  not-empty (names_one n) = refl
  not-empty (names_more ns n) = joined-not-empty (tree_names ns) n
    where
      joined-not-empty : (xs : List (List ℕ)) (x : List ℕ) → st.is_empty (xs ++ x ∷ []) ≡ false
      joined-not-empty [] x = refl
      joined-not-empty (y ∷ xs) x = refl

  variables_end-held : (texts : Texts) (os : List m.Outer) (before : Option Statements) (ns : Option g.Names) (rest : List Kind)
      → st.on_variables (held_begun place texts os before (for_word ∷ m.spell_names_before ns (in_word ∷ rest))) (names_before place ns) in_word ≡ shown texts rest (m.variables_end os before ns)
  variables_end-held texts os before None rest = refl
  variables_end-held texts os before (Some ns) rest = if_false _ None _ (not-empty ns)

  on_variables-held : (texts : Texts) (os : List m.Outer) (before : Option Statements) (ns : Option g.Names) (t : Kind) (rest : List Kind)
      → st.on_variables (held_begun place texts os before (for_word ∷ m.spell_names_before ns (t ∷ rest))) (names_before place ns) t ≡ shown texts rest (m.on_variables os before ns t)
  on_variables-held texts os before None (t.Name n) rest = refl
  on_variables-held texts os before (Some ns) (t.Name n) rest = refl
  on_variables-held texts os before ns in_word rest = variables_end-held texts os before ns rest
  on_variables-held texts os before ns t rest = refl

  two-more : (n : ℕ) → nat_lt 1 (suc (suc n)) ≡ true
  two-more n = lt-ltb 1 (suc (suc n)) (omega arith)

  one-more : (ns : g.Names) (n : List ℕ) → nat_lt 1 (length (tree_names ns ++ n ∷ [])) ≡ true
  one-more ns n = more (tree_names ns) n (not-empty ns)
    where
      more : (xs : List (List ℕ)) (x : List ℕ) → st.is_empty xs ≡ false → nat_lt 1 (length (xs ++ x ∷ [])) ≡ true
      more [] x e = absurd (false≢true (sym e))
      more (y ∷ []) x e = refl
      more (y ∷ z ∷ xs) x e = two-more (length (xs ++ x ∷ []))

  comma-held : (ns : g.Names) → nat_lt 1 (length (tree_names ns)) ≡ variables_divided (variables ns)
  comma-held (names_one n) = refl
  comma-held (names_more ns n) = one-more ns n

  on_variable-held : (texts : Texts) (os : List m.Outer) (before : Option Statements) (ns : g.Names) (t : Kind) (rest : List Kind)
      → st.on_variable (held_begun place texts os before (for_word ∷ g.spell_names ns (t ∷ rest))) (tree_names ns) t ≡ shown texts rest (m.on_variable os before ns t)
  on_variable-held texts os before ns comma rest = refl
  on_variable-held texts os before ns in_word rest = ap (λ b. Some (st.variables_end (held_begun place texts os before (for_word ∷ g.spell_names ns (in_word ∷ rest))) (tree_names ns) b)) (comma-held ns)
  on_variable-held texts os before ns t rest = refl

  on_else-held : (texts : Texts) (os : List m.Outer) (before : Option Statements) (bs : g.Branches) (t : Kind) (rest : List Kind)
      → st.on_else (held_outers place texts os (spell_front before (g.spell_branches bs (else_word ∷ t ∷ rest)))) (held_done place texts before (g.spell_branches bs (else_word ∷ t ∷ rest))) (held_branches place texts bs (else_word ∷ t ∷ rest)) t ≡ shown texts rest (m.on_else os before bs t)
  on_else-held texts os before bs colon rest = ap Some (opens-held texts os before (otherwise bs) rest)
  on_else-held texts os before bs t rest = refl

  on_def-held : (texts : Texts) (before : Option Statements) (t : Kind) (rest : List Kind) → st.on_def (held_begun place texts [] before (def_word ∷ t ∷ rest)) t ≡ shown texts rest (m.on_def before t)
  on_def-held texts before (t.Name n) rest = refl
  on_def-held texts before t rest = refl

  on_def_name-held : (texts : Texts) (before : Option Statements) (n : List ℕ) (token : Kind) (rest : List Kind) → st.on_def_name (held_begun place texts [] before (def_word ∷ t.Name n ∷ token ∷ rest)) n token ≡ shown texts rest (m.on_def_name before n token)
  on_def_name-held texts before n open_parenthesis rest = refl
  on_def_name-held texts before n t rest = refl

  on_param-held : (texts : Texts) (before : Option Statements) (n : List ℕ) (ns : g.Names) (token : Kind) (rest : List Kind)
      → st.on_param (held_begun place texts [] before (def_word ∷ t.Name n ∷ open_parenthesis ∷ g.spell_names ns (token ∷ rest))) n (tree_names ns) token ≡ shown texts rest (m.on_param before n ns token)
  on_param-held texts before n ns comma rest = refl
  on_param-held texts before n ns close_parenthesis rest = refl
  on_param-held texts before n ns t rest = refl

  on_params_end-held : (texts : Texts) (before : Option Statements) (n : List ℕ) (ps : Params) (token : Kind) (rest : List Kind)
      → st.on_params_end (held_begun place texts [] before (def_word ∷ t.Name n ∷ open_parenthesis ∷ g.spell_params ps (close_parenthesis ∷ token ∷ rest))) n (tree_params ps) token ≡ shown texts rest (m.on_params_end before n ps token)
  on_params_end-held texts before n ps colon rest = ap Some (opens-held texts [] before (define n ps) rest)
  on_params_end-held texts before n ps t rest = refl

  on_colon-held : (texts : Texts) (os : List m.Outer) (o : m.Outer) (t : Kind) (rest : List Kind) → st.on_colon (place (length (t ∷ rest))) (held_outers place texts os (spell_outer o (t ∷ rest))) (held_outer place texts os o (t ∷ rest)) t ≡ shown texts rest (m.on_colon os o t)
  on_colon-held texts os o t.Newline rest = refl
  on_colon-held texts os o t rest = begins-held texts os (behind_head o) t rest

  on_newline-held : (texts : Texts) (os : List m.Outer) (o : m.Outer) (token : Kind) (rest : List Kind) → st.on_newline (held_outers place texts os (spell_outer o (t.Newline ∷ token ∷ rest))) (held_outer place texts os o (t.Newline ∷ token ∷ rest)) token ≡ shown texts rest (m.on_newline os o token)
  on_newline-held texts os o t.Indent rest = refl
  on_newline-held texts os o t rest = refl

  -- ---- names

  -- the names that are noted are those that the function's names have to differ from
  abbrev pub NewAs : Names → m.State → Type 0
  NewAs names (in_global os at ns) = (i : List ℕ) → is_new_in names i ≡ m.is_new_name ns i (m.spot_heard os at)
  NewAs names (in_params before n ns) = (i : List ℕ) → is_new_in names i ≡ m.is_new_name ns i (λ more. more)
  NewAs names s = Unit {0}

  global-held : (texts : Texts) (names : Names) (os : List m.Outer) (at : m.Spot) (ns : Option g.Names) (t : Kind) (rest : List Kind) → ((i : List ℕ) → is_new_in names i ≡ m.is_new_name ns i (m.spot_heard os at))
      → st.on_global (held_simple place texts os at (global_word ∷ m.spell_names_before ns (t ∷ rest))) (names_before place ns) names t ≡ shown texts rest (m.on_global os at ns t)
  global-held texts names os at None (t.Name n) rest new = allowed-shown texts _ (m.is_new_name None n (m.spot_heard os at)) (has_global os at (names_one n)) _ rest (new n) refl
  global-held texts names os at (Some ns) (t.Name n) rest new = allowed-shown texts _ (m.is_new_name (Some ns) n (m.spot_heard os at)) (has_global os at (names_more ns n)) _ rest (new n) refl
  global-held texts names os at ns t rest new = refl

  params-held : (texts : Texts) (names : Names) (before : Option Statements) (n : List ℕ) (ns : Option g.Names) (token : Kind) (rest : List Kind) → ((i : List ℕ) → is_new_in names i ≡ m.is_new_name ns i (λ more. more))
      → st.on_params (held_begun place texts [] before (def_word ∷ t.Name n ∷ open_parenthesis ∷ m.spell_names_before ns (token ∷ rest))) n (names_before place ns) names token ≡ shown texts rest (m.on_params before n ns token)
  params-held texts names before n None (t.Name i) rest new = allowed-shown texts _ (m.is_new_name None i (λ more. more)) (has_params before n (names_one i)) _ rest (new i) refl
  params-held texts names before n (Some ns) (t.Name i) rest new = allowed-shown texts _ (m.is_new_name (Some ns) i (λ more. more)) (has_params before n (names_more ns i)) _ rest (new i) refl
  params-held texts names before n None close_parenthesis rest new = refl
  params-held texts names before n (Some ns) close_parenthesis rest new = refl
  params-held texts names before n ns t rest new = refl

  pub moves-held : (alone : Bool) (texts : Texts) (names : Names) (s : m.State) (t : Kind) (rest : List Kind) → state_stands s → NewAs names s
      → moves alone texts (place (length (t ∷ rest))) (place (length rest)) (held_state place texts s (t ∷ rest)) names t ≡ shown texts rest (forms_step alone s t)
  moves-held alone texts names (line os before) t rest stands new = line-held alone texts os before t rest
  moves-held false texts names (in_simple os at u x) t rest stands new = on_simple-held texts os at u x t rest
  moves-held false texts names (after_word os at w) t rest stands new = on_word-held texts os at w t rest
  moves-held false texts names (in_global os at ns) t rest stands new = global-held texts names os at ns t rest new
  moves-held false texts names (has_global os at ns) t rest stands new = on_global_name-held texts os at ns t rest
  moves-held false texts names (in_test os before l x) t rest stands new = on_test-held texts os before l x t rest stands.3
  moves-held false texts names (in_variables os before ns) t rest stands new = on_variables-held texts os before ns t rest
  moves-held false texts names (has_variables os before ns) t rest stands new = on_variable-held texts os before ns t rest
  moves-held false texts names (after_else os before bs) t rest stands new = on_else-held texts os before bs t rest
  moves-held false texts names (after_def before) t rest stands new = on_def-held texts before t rest
  moves-held false texts names (after_def_name before n) t rest stands new = on_def_name-held texts before n t rest
  moves-held false texts names (in_params before n ns) t rest stands new = params-held texts names before n ns t rest new
  moves-held false texts names (has_params before n ns) t rest stands new = on_param-held texts before n ns t rest
  moves-held false texts names (after_params before n ps) t rest stands new = on_params_end-held texts before n ps t rest
  moves-held false texts names (after_colon os o) t rest stands new = on_colon-held texts os o t rest
  moves-held false texts names (after_newline os o) t rest stands new = on_newline-held texts os o t rest
  moves-held false texts names (done c) t rest stands new = refl
  moves-held true texts names (in_simple os at u x) t rest stands new = on_simple-held texts os at u x t rest
  moves-held true texts names (after_word os at w) t rest stands new = on_word-held texts os at w t rest
  moves-held true texts names (in_global os at ns) t rest stands new = global-held texts names os at ns t rest new
  moves-held true texts names (has_global os at ns) t rest stands new = on_global_name-held texts os at ns t rest
  moves-held true texts names (in_test os before l x) t rest stands new = on_test-held texts os before l x t rest stands.3
  moves-held true texts names (in_variables os before ns) t rest stands new = on_variables-held texts os before ns t rest
  moves-held true texts names (has_variables os before ns) t rest stands new = on_variable-held texts os before ns t rest
  moves-held true texts names (after_else os before bs) t rest stands new = on_else-held texts os before bs t rest
  moves-held true texts names (after_def before) t rest stands new = on_def-held texts before t rest
  moves-held true texts names (after_def_name before n) t rest stands new = on_def_name-held texts before n t rest
  moves-held true texts names (in_params before n ns) t rest stands new = params-held texts names before n ns t rest new
  moves-held true texts names (has_params before n ns) t rest stands new = on_param-held texts before n ns t rest
  moves-held true texts names (after_params before n ps) t rest stands new = on_params_end-held texts before n ps t rest
  moves-held true texts names (after_colon os o) t rest stands new = on_colon-held texts os o t rest
  moves-held true texts names (after_newline os o) t rest stands new = on_newline-held texts os o t rest
  moves-held true texts names (done c) t rest stands new = refl
