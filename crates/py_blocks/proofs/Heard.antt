-- The names of the function that is open, after one more token.
use Rattle.std.proofs.Common.{◌≡◌, ℕ, Bool, true, false, ◌&&◌, not, cond, IsTrue, if◌then◌else◌, List, [], ◌∷◌, ◌++◌, Option, Some, None, refl, ap, ◌∙◌, sym, subst}
use Rattle.std.specs.FinMap as finite
use Rattle.std.specs.Ordering.{nat_cmp}
use Rattle.std.specs.Cmp.{eq_by_cmp_equiv}
use Rattle.std.specs.Cmp.Lexicographic.{slice_cmp, pointwise, nat_list_cmp_total, texts_ties}
use Rattle.std.specs.Prelude.{nat_eq}
use Rattle.std.proofs.lemmas.Bool.{false≢true}
use Rattle.py_token.specs.declared.kinds.Kind.{Kind}
use Rattle.py_token.specs.declared.kinds.Kind.TheVariants as t
use Rattle.py_grammar.specs.Words.{if_word, else_word, elif_word, while_word, for_word, in_word, pass_word, break_word, continue_word, return_word, global_word, del_word, def_word, floor_assign_sign, plus_assign_sign, minus_assign_sign, times_assign_sign, mod_assign_sign, assign_sign, open_parenthesis, close_parenthesis, colon, comma}
use Rattle.py_grammar.specs.Expressions.{Exprs, single}
use Rattle.py_grammar.specs.Readings.{Reading, is_none, begun, read, whole, narrow}
use Rattle.py_grammar.specs.Open.{spell_reading}
use Rattle.py_grammar.specs.Statements.{Target, Targets, Augmentation, by_plus, by_minus, by_times, by_floor, by_modulo, Names, names_one, names_more, Word, Simple, word, declare, break_, continue_, augmentation_sign, spell_names, keyword, spell_simple, Params, no_params, params, params_comma, simple, compound, Head, choose, otherwise, while_true, for_each, define, Branches, Block, inline, indented, Statements, statements_one, statements_more, spell_statements, spell_params, spell_head, spell_branches, spell_block, spell_front, inside, hear, is_name, is_new, head_stands}
use Rattle.py_grammar.specs.States.{Outer, outer, Spot, own, behind_head, Purpose, showing, giving, deleting, assigning, augmenting, Lead, lead_if, lead_elif, lead_while, lead_for, State, line, in_simple, after_word, in_global, has_global, in_test, in_variables, has_variables, after_else, after_def, after_def_name, in_params, has_params, after_params, after_colon, after_newline, done, around, heard, spot_around, spot_heard, close, ended, place_of, targets_of, finished, head_of, fits, Continued, continued, last_branches, if_allowed, then_simple, begins, elif_at, else_at, def_at, dedent_at, end_at, on_line, ends, assigns, augments, on_simple, on_word, spell_names_before, is_new_name, add_name, on_global, on_global_name, tested, then_test, variables_end, on_variables, on_variable, on_else, on_def, on_def_name, on_params, on_param, on_params_end, on_colon, on_newline, step, spell_purpose, spell_lead, spot_stands, state_stands}
use Rattle.py_grammar.proofs.Spelled.{Adds, SpellsAll, read-adds, whole-spelled}
use Rattle.py_grammar.proofs.Stepped.{add_statement-spelled, close-spelled, add_name-spelled, params_of-spelled, SpellsSimple, SpellsPlace, SpellsTargets, SpellsContinued, finished-spelled, targets_of-spelled, place_of-spelled, last_branches-spelled}
use Rattle.py_grammar.proofs.Standing.{Spelling, none, first, joined, reading-tokens}
use Rattle.py_grammar.proofs.Places.{head-tokens, condition-tokens, branches-tokens, statements-tokens, state-tokens}
use Rattle.py_blocks.proofs.Moves.{NewAs}
use Rattle.py_blocks.specs.Heard.{heard_now}
use Rattle.py_blocks.specs.Steps as st
use Rattle.py_blocks.specs.Blocks.{Texts}
use Rattle.py_blocks.specs.Held.{held_state}
use Rattle.py_blocks.specs.Steps.{is_new_in, noted, renamed}
use Rattle.py_blocks.specs.Follows.{HearsIn, Hears}

module _ (place : ℕ → ℕ) where
  -- ---- one more token of a list

  pub and_true : (b : Bool) → (b && true) ≡ b
  and_true true = refl
  and_true false = refl

  and_assoc : (a b c : Bool) → ((a && b) && c) ≡ (a && (b && c))
  and_assoc true b c = refl
  and_assoc false b c = refl

  is_new-append : (i : List ℕ) (xs ys : List Kind) → is_new i (xs ++ ys) ≡ (is_new i xs && is_new i ys)
  is_new-append i [] ys = refl
  is_new-append i (x ∷ xs) ys = ap (λ b. not (is_name i x) && b) (is_new-append i xs ys) ∙ sym (and_assoc (not (is_name i x)) (is_new i xs) (is_new i ys))

  -- what is spelled before these tokens adds none of them
  pub new-spelled : {f : List Kind → List Kind} → Spelling f → (i : List ℕ) (rest : List Kind) → is_new i (f rest) ≡ (is_new i (f []) && is_new i rest)
  new-spelled {f} s i rest =
      let first : is_new i (f []) ≡ is_new i s.tokens = ap (is_new i) (s.spelled []) ∙ is_new-append i s.tokens [] ∙ and_true (is_new i s.tokens) in
      ap (is_new i) (s.spelled rest) ∙ is_new-append i s.tokens rest ∙ ap (λ b. b && is_new i rest) (sym first)

  -- a name is new after one more token if it was new and isn't the token
  abbrev pub Adds1 : List Kind → Kind → List Kind → Type 0
  Adds1 ks t more = (i : List ℕ) → is_new i more ≡ (is_new i ks && not (is_name i t))

  pub adds : {f : List Kind → List Kind} → Spelling f → (t : Kind) (more : List Kind) → more ≡ f (t ∷ []) → Adds1 (f []) t more
  adds {f} s t more same = λ i. ap (is_new i) same ∙ new-spelled s i (t ∷ []) ∙ ap (λ b. is_new i (f []) && b) (and_true (not (is_name i t)))

  -- the same after more tokens before both
  pub adds_behind : {f : List Kind → List Kind} → Spelling f → (ks : List Kind) (t : Kind) (more : List Kind) → Adds1 ks t more → Adds1 (f ks) t (f more)
  adds_behind {f} s ks t more a = λ i. new-spelled s i more ∙ ap (λ b. is_new i (f []) && b) (a i) ∙ sym (and_assoc (is_new i (f [])) (is_new i ks) (not (is_name i t))) ∙ ap (λ b. b && not (is_name i t)) (sym (new-spelled s i ks))

  -- ---- when a function is open

  abbrev pub Grown : Option (List Kind) → Kind → Option (List Kind) → Type 0
  Grown ks t None = Unit {0}
  Grown None t (Some more) = ⊥
  Grown (Some ks) t (Some more) = Adds1 ks t more

  pub grown_if : (b : Bool) (ks : List Kind) (t : Kind) (more : List Kind) → Adds1 ks t more → Grown (if b then Some ks else None) t (if b then Some more else None)
  grown_if true ks t more a = a
  grown_if false ks t more a = tt

  abbrev pub GrownTo : Option (List Kind) → Kind → Option State → Type 0
  GrownTo ks t None = Unit {0}
  GrownTo ks t (Some u) = Grown ks t (heard_now u)

  pub grown_allowed : (b : Bool) (u : State) (ks : Option (List Kind)) (t : Kind) → Grown ks t (heard_now u) → GrownTo ks t (if_allowed b u)
  grown_allowed true u ks t g = g
  grown_allowed false u ks t g = tt

  -- ---- the names that are noted

  is_new_in-insert : (names : st.Names) (m i : List ℕ) → is_new_in (finite.insert names m true) i ≡ (is_new_in names i && not (pointwise nat_eq m i))
  is_new_in-insert names m i =
      ap is_none (finite.get-insert nat_list_cmp_total names m true i ∙ ap (λ b. cond b (Some true) (finite.get names i)) ((eq_by_cmp_equiv nat_list_cmp_total).symm i m ∙ sym (texts_ties m i))) ∙ found (pointwise nat_eq m i) (finite.get names i)
    where
      found : (b : Bool) (o : Option Bool) → is_none (cond b (Some true) o) ≡ (is_none o && not b)
      found true None = refl
      found true (Some x) = refl
      found false None = refl
      found false (Some x) = refl

  is_new_in-noted : (t : Kind) (names : st.Names) (i : List ℕ) → is_new_in (noted t names) i ≡ (is_new_in names i && not (is_name i t))
  is_new_in-noted (t.Name m) names i = is_new_in-insert names m i
  is_new_in-noted t names i = sym (and_true (is_new_in names i))

  pub hears-grown : (ks : Option (List Kind)) (t : Kind) (more : Option (List Kind)) (names : st.Names) → Grown ks t more → HearsIn ks names → HearsIn more (noted t names)
  hears-grown ks t None names g h = tt
  hears-grown None t (Some more) names g h = absurd g
  hears-grown (Some ks) t (Some more) names g h = λ i. is_new_in-noted t names i ∙ ap (λ b. b && not (is_name i t)) (h i) ∙ sym (g i)

  -- ---- what is heard are tokens that don't depend on what follows

  front-tokens : (c : Option Statements) → Spelling (spell_front c)
  front-tokens None = none
  front-tokens (Some ss) = statements-tokens ss

  names-tokens : (ns : Names) → Spelling (spell_names ns)
  names-tokens (names_one n) = first (t.Name n) none
  names-tokens (names_more ns n) = joined (names-tokens ns) (first comma (first (t.Name n) none))

  names_before-tokens : (ns : Option Names) → Spelling (spell_names_before ns)
  names_before-tokens None = none
  names_before-tokens (Some ns) = joined (names-tokens ns) (first comma none)

  params-tokens : (ps : Params) → Spelling (spell_params ps)
  params-tokens no_params = none
  params-tokens (params ns) = names-tokens ns
  params-tokens (params_comma ns) = joined (names-tokens ns) (first comma none)

  hear-tokens : (h : Head) (earlier : List Kind → List Kind) → Spelling earlier → Spelling (hear h earlier)
  hear-tokens (choose c) earlier s = joined s (condition-tokens c)
  hear-tokens (otherwise bs) earlier s = joined s (head-tokens (otherwise bs))
  hear-tokens (while_true a) earlier s = joined s (head-tokens (while_true a))
  hear-tokens (for_each vs a) earlier s = joined s (head-tokens (for_each vs a))
  hear-tokens (define n ps) earlier s = params-tokens ps

  heard-tokens : (os : List Outer) → Spelling (heard os)
  heard-tokens [] = none
  heard-tokens (outer before h ∷ os) = hear-tokens h (λ more. heard os (spell_front before more)) (joined (heard-tokens os) (front-tokens before))

  before-tokens : (os : List Outer) (before : Option Statements) → Spelling (λ rest. heard os (spell_front before rest))
  before-tokens os before = joined (heard-tokens os) (front-tokens before)

  pub spot-tokens : (os : List Outer) (at : Spot) → Spelling (spot_heard os at)
  spot-tokens os (own before) = before-tokens os before
  spot-tokens os (behind_head (outer before h)) = hear-tokens h (λ more. heard os (spell_front before more)) (before-tokens os before)

  purpose-tokens : (u : Purpose) → Spelling (spell_purpose u)
  purpose-tokens u = state-tokens (in_simple [] (own None) u begun)

  lead-tokens : (l : Lead) → Spelling (spell_lead l)
  lead-tokens l = state-tokens (in_test [] None l begun)

  -- ---- what is in a block, once it is closed

  -- a function is at the top
  top-outside : (os : List Outer) → IsTrue (around os).top → (around os).in_function ≡ false
  top-outside [] h = refl
  top-outside (outer before (choose c) ∷ os) h = absurd (false≢true h)
  top-outside (outer before (otherwise bs) ∷ os) h = absurd (false≢true h)
  top-outside (outer before (while_true a) ∷ os) h = absurd (false≢true h)
  top-outside (outer before (for_each vs a) ∷ os) h = absurd (false≢true h)
  top-outside (outer before (define n ps) ∷ os) h = absurd (false≢true h)

  nothing-grown : (b : Bool) (ks more : List Kind) (t : Kind) → b ≡ false → Grown (Some ks) t (if b then Some more else None)
  nothing-grown b ks more t same = subst (λ c. Grown (Some ks) t (if c then Some more else None)) (sym same) tt

  closed-same : (os : List Outer) (before : Option Statements) (h : Head) (b : Block) → heard os (spell_front (close (outer before h) b) []) ≡ heard os (spell_front before (spell_head h (spell_block b [])))
  closed-same os before h b = ap (heard os) (close-spelled (outer before h) b [])

  closed-grown : (os : List Outer) (before : Option Statements) (h : Head) (b : Block) (ks : List Kind) (t : Kind) → head_stands h (around os) (λ rest. heard os (spell_front before rest)) → Adds1 ks t (spell_block b [])
      → Grown (if (inside h (around os)).in_function then Some (hear h (λ more. heard os (spell_front before more)) ks) else None) t (heard_now (line os (close (outer before h) b)))
  closed-grown os before (choose c) b ks t stands a = grown_if (around os).in_function _ t _ (λ i. ap (is_new i) (closed-same os before (choose c) b) ∙ adds_behind (joined (before-tokens os before) (condition-tokens c)) ks t (spell_block b []) a i)
  closed-grown os before (otherwise bs) b ks t stands a = grown_if (around os).in_function _ t _ (λ i. ap (is_new i) (closed-same os before (otherwise bs) b) ∙ adds_behind (joined (before-tokens os before) (head-tokens (otherwise bs))) ks t (spell_block b []) a i)
  closed-grown os before (while_true x) b ks t stands a = grown_if (around os).in_function _ t _ (λ i. ap (is_new i) (closed-same os before (while_true x) b) ∙ adds_behind (joined (before-tokens os before) (head-tokens (while_true x))) ks t (spell_block b []) a i)
  closed-grown os before (for_each vs x) b ks t stands a = grown_if (around os).in_function _ t _ (λ i. ap (is_new i) (closed-same os before (for_each vs x) b) ∙ adds_behind (joined (before-tokens os before) (head-tokens (for_each vs x))) ks t (spell_block b []) a i)
  closed-grown os before (define n ps) b ks t stands a = nothing-grown (around os).in_function (hear (define n ps) (λ more. heard os (spell_front before more)) ks) _ t (top-outside os stands.0)

  -- a simple statement ends
  ended-grown : (os : List Outer) (at : Spot) (s : Simple) (f : List Kind → List Kind) → Spelling f → ((rest : List Kind) → spell_simple s rest ≡ f rest) → spot_stands os at
      → Grown (if (spot_around os at).in_function then Some (spot_heard os at (f [])) else None) t.Newline (heard_now (ended os at s))
  ended-grown os (own before) s f k same stands =
      grown_if (around os).in_function _ t.Newline _ (adds (joined (before-tokens os before) k) t.Newline _ (ap (heard os) (add_statement-spelled before (simple s) []) ∙ ap (λ x. heard os (spell_front before x)) (same (t.Newline ∷ []))))
  ended-grown os (behind_head (outer before h)) s f k same stands =
      closed-grown os before h (inline s) (f []) t.Newline stands.1 (adds k t.Newline _ (same (t.Newline ∷ [])))

  -- ---- a simple statement

  -- what is heard of a function after these tokens of a statement
  abbrev spot_now : List Outer → Spot → List Kind → Option (List Kind)
  spot_now os at ks = if (spot_around os at).in_function then Some (spot_heard os at ks) else None

  spot-grown : (os : List Outer) (at : Spot) (f : List Kind → List Kind) (t : Kind) (more : List Kind) → Spelling f → more ≡ f (t ∷ []) → Grown (spot_now os at (f [])) t (spot_now os at more)
  spot-grown os at f t more k same = grown_if (spot_around os at).in_function _ t _ (adds (joined (spot-tokens os at) k) t _ (ap (spot_heard os at) same))

  ends-grown : (os : List Outer) (at : Spot) (s : Option Simple) (f : List Kind → List Kind) → Spelling f → SpellsSimple s f → spot_stands os at → GrownTo (spot_now os at (f [])) t.Newline (ends os at s)
  ends-grown os at None f k same stands = tt
  ends-grown os at (Some s) f k same stands = ended-grown os at s f k same stands

  then_simple-grown : (os : List Outer) (at : Spot) (u : Purpose) (o : Option Reading) (f : List Kind → List Kind) (t : Kind) → Spelling f → Adds f t o → GrownTo (spot_now os at (spell_purpose u (f []))) t (then_simple os at u o)
  then_simple-grown os at u None f t k a = tt
  then_simple-grown os at deleting (Some r) f t k a = grown_allowed (narrow r) (in_simple os at deleting r) _ t (spot-grown os at (λ rest. del_word ∷ f rest) t _ (first del_word k) (ap (λ x. del_word ∷ x) (a [])))
  then_simple-grown os at showing (Some r) f t k a = spot-grown os at f t _ k (a [])
  then_simple-grown os at giving (Some r) f t k a = spot-grown os at (λ rest. return_word ∷ f rest) t _ (first return_word k) (ap (λ x. return_word ∷ x) (a []))
  then_simple-grown os at (assigning to) (Some r) f t k a = spot-grown os at (λ rest. spell_purpose (assigning to) (f rest)) t _ (joined (purpose-tokens (assigning to)) k) (ap (spell_purpose (assigning to)) (a []))
  then_simple-grown os at (augmenting to by) (Some r) f t k a = spot-grown os at (λ rest. spell_purpose (augmenting to by) (f rest)) t _ (joined (purpose-tokens (augmenting to by)) k) (ap (spell_purpose (augmenting to by)) (a []))

  begins-grown : (os : List Outer) (at : Spot) (t : Kind) → GrownTo (spot_now os at []) t (begins os at t)
  begins-grown os at pass_word = spot-grown os at (λ rest. rest) pass_word _ none refl
  begins-grown os at break_word = grown_allowed (spot_around os at).in_loop (after_word os at break_) _ break_word (spot-grown os at (λ rest. rest) break_word _ none refl)
  begins-grown os at continue_word = grown_allowed (spot_around os at).in_loop (after_word os at continue_) _ continue_word (spot-grown os at (λ rest. rest) continue_word _ none refl)
  begins-grown os at return_word = grown_allowed (spot_around os at).in_function (in_simple os at giving begun) _ return_word (spot-grown os at (λ rest. rest) return_word _ none refl)
  begins-grown os at global_word = grown_allowed (spot_around os at).in_function (in_global os at None) _ global_word (spot-grown os at (λ rest. rest) global_word _ none refl)
  begins-grown os at del_word = spot-grown os at (λ rest. rest) del_word _ none refl
  begins-grown os at t = then_simple-grown os at showing (read begun t) (λ rest. rest) t none (read-adds begun t)

  assigns-grown : (os : List Outer) (at : Spot) (u : Purpose) (ts : Option Targets) (f : List Kind → List Kind) → Spelling f → SpellsTargets ts f → GrownTo (spot_now os at (spell_purpose u (f []))) assign_sign (assigns os at u ts)
  assigns-grown os at showing (Some ts) f k same = spot-grown os at f assign_sign _ k (same (assign_sign ∷ []))
  assigns-grown os at _ _ f k same = tt

  augments-grown : (os : List Outer) (at : Spot) (by : Augmentation) (u : Purpose) (to : Option Target) (f : List Kind → List Kind) → Spelling f → SpellsPlace to f → GrownTo (spot_now os at (spell_purpose u (f []))) (augmentation_sign by) (augments os at by u to)
  augments-grown os at by showing (Some to) f k same = spot-grown os at f (augmentation_sign by) _ k (same (augmentation_sign by ∷ []))
  augments-grown os at by _ _ f k same = tt

  on_simple-grown : (os : List Outer) (at : Spot) (u : Purpose) (r : Reading) (t : Kind) → spot_stands os at → GrownTo (heard_now (in_simple os at u r)) t (on_simple os at u r t)
  on_simple-grown os at u r t.Newline stands = ends-grown os at (finished u r) (λ rest. spell_purpose u (spell_reading r rest)) (joined (purpose-tokens u) (reading-tokens r)) (finished-spelled u r) stands
  on_simple-grown os at u r assign_sign stands = assigns-grown os at u (targets_of (whole r)) (spell_reading r) (reading-tokens r) (targets_of-spelled (whole r) (spell_reading r) (whole-spelled r))
  on_simple-grown os at u r plus_assign_sign stands = augments-grown os at by_plus u (place_of (whole r)) (spell_reading r) (reading-tokens r) (place_of-spelled (whole r) (spell_reading r) (whole-spelled r))
  on_simple-grown os at u r minus_assign_sign stands = augments-grown os at by_minus u (place_of (whole r)) (spell_reading r) (reading-tokens r) (place_of-spelled (whole r) (spell_reading r) (whole-spelled r))
  on_simple-grown os at u r times_assign_sign stands = augments-grown os at by_times u (place_of (whole r)) (spell_reading r) (reading-tokens r) (place_of-spelled (whole r) (spell_reading r) (whole-spelled r))
  on_simple-grown os at u r floor_assign_sign stands = augments-grown os at by_floor u (place_of (whole r)) (spell_reading r) (reading-tokens r) (place_of-spelled (whole r) (spell_reading r) (whole-spelled r))
  on_simple-grown os at u r mod_assign_sign stands = augments-grown os at by_modulo u (place_of (whole r)) (spell_reading r) (reading-tokens r) (place_of-spelled (whole r) (spell_reading r) (whole-spelled r))
  on_simple-grown os at u r t stands = then_simple-grown os at u (read r t) (spell_reading r) t (reading-tokens r) (read-adds r t)

  on_word-grown : (os : List Outer) (at : Spot) (w : Word) (t : Kind) → spot_stands os at → GrownTo (heard_now (after_word os at w)) t (on_word os at w t)
  on_word-grown os at w t.Newline stands = ended-grown os at (word w) (λ rest. keyword w ∷ rest) (first (keyword w) none) (λ rest. refl) stands
  on_word-grown os at w t stands = tt

  on_global-grown : (os : List Outer) (at : Spot) (ns : Option Names) (t : Kind) → GrownTo (heard_now (in_global os at ns)) t (on_global os at ns t)
  on_global-grown os at ns (t.Name n) = grown_allowed (is_new_name ns n (spot_heard os at)) (has_global os at (add_name ns n)) (spot_now os at (global_word ∷ spell_names_before ns [])) (t.Name n) (spot-grown os at (λ rest. global_word ∷ spell_names_before ns rest) (t.Name n) _ (first global_word (names_before-tokens ns)) (ap (λ x. global_word ∷ x) (add_name-spelled ns n [])))
  on_global-grown os at ns t = tt

  on_global_name-grown : (os : List Outer) (at : Spot) (ns : Names) (t : Kind) → spot_stands os at → GrownTo (heard_now (has_global os at ns)) t (on_global_name os at ns t)
  on_global_name-grown os at ns comma stands = spot-grown os at (λ rest. global_word ∷ spell_names ns rest) comma _ (first global_word (names-tokens ns)) refl
  on_global_name-grown os at ns t.Newline stands = ended-grown os at (declare ns) (λ rest. global_word ∷ spell_names ns rest) (first global_word (names-tokens ns)) (λ rest. refl) stands
  on_global_name-grown os at ns t stands = tt

  -- ---- heads

  front-grown : (os : List Outer) (before : Option Statements) (f : List Kind → List Kind) (t : Kind) (more : List Kind) → Spelling f → more ≡ f (t ∷ [])
      → Grown (if (around os).in_function then Some (heard os (spell_front before (f []))) else None) t (if (around os).in_function then Some (heard os (spell_front before more)) else None)
  front-grown os before f t more k same = grown_if (around os).in_function _ t _ (adds (joined (before-tokens os before) k) t _ (ap (λ x. heard os (spell_front before x)) same))

  tested-grown : (os : List Outer) (before : Option Statements) (lead : Lead) (r : Reading) (w : Option Exprs) (t : Kind) → SpellsAll w (spell_reading r) → GrownTo (heard_now (in_test os before lead r)) t (tested os before (head_of lead w) t)
  tested-grown os before lead_if r (Some (single a)) colon k = front-grown os before (λ rest. if_word ∷ spell_reading r rest) colon _ (first if_word (reading-tokens r)) (ap (λ x. if_word ∷ x) (k (colon ∷ [])))
  tested-grown os before (lead_elif bs) r (Some (single a)) colon k = front-grown os before (λ rest. spell_branches bs (elif_word ∷ spell_reading r rest)) colon _ (joined (branches-tokens bs) (first elif_word (reading-tokens r))) (ap (λ x. spell_branches bs (elif_word ∷ x)) (k (colon ∷ [])))
  tested-grown os before lead_while r (Some (single a)) colon k = front-grown os before (λ rest. while_word ∷ spell_reading r rest) colon _ (first while_word (reading-tokens r)) (ap (λ x. while_word ∷ x) (k (colon ∷ [])))
  tested-grown os before (lead_for vs) r (Some a) colon k = front-grown os before (λ rest. spell_lead (lead_for vs) (spell_reading r rest)) colon _ (joined (lead-tokens (lead_for vs)) (reading-tokens r)) (ap (spell_lead (lead_for vs)) (k (colon ∷ [])))
  tested-grown os before lead r w t k = tt

  then_test-grown : (os : List Outer) (before : Option Statements) (lead : Lead) (r : Reading) (t : Kind) (o : Option Reading) → Adds (spell_reading r) t o → GrownTo (heard_now (in_test os before lead r)) t (then_test os before lead r t o)
  then_test-grown os before lead r t (Some s) a = grown_allowed (fits lead s) (in_test os before lead s) (heard_now (in_test os before lead r)) t (front-grown os before (λ rest. spell_lead lead (spell_reading r rest)) t _ (joined (lead-tokens lead) (reading-tokens r)) (ap (spell_lead lead) (a [])))
  then_test-grown os before lead r t None a = tested-grown os before lead r (whole r) t (whole-spelled r)

  variables_end-grown : (os : List Outer) (before : Option Statements) (ns : Option Names) → GrownTo (heard_now (in_variables os before ns)) in_word (variables_end os before ns)
  variables_end-grown os before None = tt
  variables_end-grown os before (Some ns) = front-grown os before (λ rest. for_word ∷ spell_names ns (comma ∷ rest)) in_word _ (first for_word (joined (names-tokens ns) (first comma none))) refl

  on_variables-grown : (os : List Outer) (before : Option Statements) (ns : Option Names) (t : Kind) → GrownTo (heard_now (in_variables os before ns)) t (on_variables os before ns t)
  on_variables-grown os before ns (t.Name n) = front-grown os before (λ rest. for_word ∷ spell_names_before ns rest) (t.Name n) _ (first for_word (names_before-tokens ns)) (ap (λ x. for_word ∷ x) (add_name-spelled ns n []))
  on_variables-grown os before ns in_word = variables_end-grown os before ns
  on_variables-grown os before ns t = tt

  on_variable-grown : (os : List Outer) (before : Option Statements) (ns : Names) (t : Kind) → GrownTo (heard_now (has_variables os before ns)) t (on_variable os before ns t)
  on_variable-grown os before ns comma = front-grown os before (λ rest. for_word ∷ spell_names ns rest) comma _ (first for_word (names-tokens ns)) refl
  on_variable-grown os before ns in_word = front-grown os before (λ rest. for_word ∷ spell_names ns rest) in_word _ (first for_word (names-tokens ns)) refl
  on_variable-grown os before ns t = tt

  on_else-grown : (os : List Outer) (before : Option Statements) (bs : Branches) (t : Kind) → GrownTo (heard_now (after_else os before bs)) t (on_else os before bs t)
  on_else-grown os before bs colon = front-grown os before (λ rest. spell_branches bs (else_word ∷ rest)) colon _ (joined (branches-tokens bs) (first else_word none)) refl
  on_else-grown os before bs t = tt

  -- ---- lines

  line-grown : (os : List Outer) (before : Option Statements) (t : Kind) (more : List Kind) → more ≡ spell_front before (t ∷ []) → Grown (heard_now (line os before)) t (if (around os).in_function then Some (heard os more) else None)
  line-grown os before t more same = grown_if (around os).in_function _ t _ (adds (before-tokens os before) t _ (ap (heard os) same))

  elif_at-grown : (os : List Outer) (before : Option Statements) (o : Option Continued) → SpellsContinued o (spell_front before) → GrownTo (heard_now (line os before)) elif_word (elif_at os o)
  elif_at-grown os before None k = tt
  elif_at-grown os before (Some (continued b bs)) k = line-grown os before elif_word _ (k (elif_word ∷ []))

  else_at-grown : (os : List Outer) (before : Option Statements) (o : Option Continued) → SpellsContinued o (spell_front before) → GrownTo (heard_now (line os before)) else_word (else_at os o)
  else_at-grown os before None k = tt
  else_at-grown os before (Some (continued b bs)) k = line-grown os before else_word _ (k (else_word ∷ []))

  def_at-grown : (os : List Outer) (before : Option Statements) → GrownTo (heard_now (line os before)) def_word (def_at os before)
  def_at-grown [] before = tt
  def_at-grown (o ∷ os) before = tt

  dedent_at-grown : (os : List Outer) (before : Option Statements) → state_stands (line os before) → GrownTo (heard_now (line os before)) t.Dedent (dedent_at os before)
  dedent_at-grown [] before stands = tt
  dedent_at-grown (o ∷ os) None stands = tt
  dedent_at-grown (outer b h ∷ os) (Some ss) stands = closed-grown os b h (indented ss) (spell_statements ss []) t.Dedent stands.0.2 (adds (statements-tokens ss) t.Dedent _ refl)

  end_at-grown : (os : List Outer) (before : Option Statements) → GrownTo (heard_now (line os before)) t.End (end_at os before)
  end_at-grown [] before = tt
  end_at-grown (o ∷ os) before = tt

  on_line-grown : (os : List Outer) (before : Option Statements) (t : Kind) → state_stands (line os before) → GrownTo (heard_now (line os before)) t (on_line os before t)
  on_line-grown os before if_word stands = line-grown os before if_word _ refl
  on_line-grown os before elif_word stands = elif_at-grown os before (last_branches before) (last_branches-spelled before)
  on_line-grown os before else_word stands = else_at-grown os before (last_branches before) (last_branches-spelled before)
  on_line-grown os before while_word stands = line-grown os before while_word _ refl
  on_line-grown os before for_word stands = line-grown os before for_word _ refl
  on_line-grown os before def_word stands = def_at-grown os before
  on_line-grown os before t.Dedent stands = dedent_at-grown os before stands
  on_line-grown os before t.End stands = end_at-grown os before
  on_line-grown os before t stands = begins-grown os (own before) t

  on_colon-grown : (os : List Outer) (before : Option Statements) (h : Head) (t : Kind) → GrownTo (heard_now (after_colon os (outer before h))) t (on_colon os (outer before h) t)
  on_colon-grown os before h t.Newline = spot-grown os (behind_head (outer before h)) (λ rest. rest) t.Newline _ none refl
  on_colon-grown os before h t = begins-grown os (behind_head (outer before h)) t

  on_newline-grown : (os : List Outer) (before : Option Statements) (h : Head) (t : Kind) → GrownTo (heard_now (after_newline os (outer before h))) t (on_newline os (outer before h) t)
  on_newline-grown os before h t.Indent =
      let k = spot-tokens os (behind_head (outer before h)) in
      grown_if (inside h (around os)).in_function _ t.Indent _ (λ i. sym (and_true _ ∙ new-spelled k i (t.Newline ∷ []) ∙ and_true _))
  on_newline-grown os before h t = tt

  -- ---- the head of a function

  on_params-grown : (before : Option Statements) (n : List ℕ) (ns : Option Names) (t : Kind) → GrownTo (heard_now (in_params before n ns)) t (on_params before n ns t)
  on_params-grown before n ns (t.Name i) = grown_allowed (is_new_name ns i (λ rest. rest)) (has_params before n (add_name ns i)) (Some (spell_names_before ns [])) (t.Name i) (adds (names_before-tokens ns) (t.Name i) _ (add_name-spelled ns i []))
  on_params-grown before n ns close_parenthesis = λ i. ap (is_new i) (params_of-spelled ns []) ∙ sym (and_true _)
  on_params-grown before n ns t = tt

  on_param-grown : (before : Option Statements) (n : List ℕ) (ns : Names) (t : Kind) → GrownTo (heard_now (has_params before n ns)) t (on_param before n ns t)
  on_param-grown before n ns comma = adds (names-tokens ns) comma _ refl
  on_param-grown before n ns close_parenthesis = λ i. sym (and_true (is_new i (spell_names ns [])))
  on_param-grown before n ns t = tt

  on_params_end-grown : (before : Option Statements) (n : List ℕ) (ps : Params) (t : Kind) → GrownTo (heard_now (after_params before n ps)) t (on_params_end before n ps t)
  on_params_end-grown before n ps colon = λ i. sym (and_true (is_new i (spell_params ps [])))
  on_params_end-grown before n ps t = tt

  -- ---- all states

  abbrev pub HearsTo : st.Names → Option State → Type 0
  HearsTo names None = Unit {0}
  HearsTo names (Some u) = Hears u names

  grown-hears : (ks : Option (List Kind)) (t : Kind) (o : Option State) (names : st.Names) → GrownTo ks t o → HearsIn ks names → HearsTo (noted t names) o
  grown-hears ks t None names g h = tt
  grown-hears ks t (Some u) names g h = hears-grown ks t (heard_now u) names g h

  on_def-hears : (before : Option Statements) (t : Kind) (names : st.Names) → HearsTo (noted t names) (on_def before t)
  on_def-hears before (t.Name n) names = tt
  on_def-hears before t names = tt

  on_def_name-hears : (texts : Texts) (before : Option Statements) (n : List ℕ) (t : Kind) (rest : List Kind) (names : st.Names) → HearsTo (renamed (held_state place texts (after_def_name before n) (t ∷ rest)) t names) (on_def_name before n t)
  on_def_name-hears texts before n open_parenthesis rest names = λ i. ap is_none (finite.get-empty (slice_cmp nat_cmp) i)
  on_def_name-hears texts before n t rest names = tt

  grown-step : (s : State) (t : Kind) (names : st.Names) → GrownTo (heard_now s) t (step s t) → Hears s names → HearsTo (noted t names) (step s t)
  grown-step s t names g h = grown-hears (heard_now s) t (step s t) names g h

  -- after a token that is read the names are those of the function that is open then
  pub step-hears : (texts : Texts) (s : State) (t : Kind) (rest : List Kind) (names : st.Names) → state_stands s → Hears s names → HearsTo (renamed (held_state place texts s (t ∷ rest)) t names) (step s t)
  step-hears texts (line os before) t rest names stands h = grown-step (line os before) t names (on_line-grown os before t stands) h
  step-hears texts (in_simple os at u r) t rest names stands h = grown-step (in_simple os at u r) t names (on_simple-grown os at u r t stands.1) h
  step-hears texts (after_word os at w) t rest names stands h = grown-step (after_word os at w) t names (on_word-grown os at w t stands.1) h
  step-hears texts (in_global os at ns) t rest names stands h = grown-step (in_global os at ns) t names (on_global-grown os at ns t) h
  step-hears texts (has_global os at ns) t rest names stands h = grown-step (has_global os at ns) t names (on_global_name-grown os at ns t stands.1) h
  step-hears texts (in_test os before l r) t rest names stands h = grown-step (in_test os before l r) t names (then_test-grown os before l r t (read r t) (read-adds r t)) h
  step-hears texts (in_variables os before ns) t rest names stands h = grown-step (in_variables os before ns) t names (on_variables-grown os before ns t) h
  step-hears texts (has_variables os before ns) t rest names stands h = grown-step (has_variables os before ns) t names (on_variable-grown os before ns t) h
  step-hears texts (after_else os before bs) t rest names stands h = grown-step (after_else os before bs) t names (on_else-grown os before bs t) h
  step-hears texts (after_def before) t rest names stands h = on_def-hears before t names
  step-hears texts (after_def_name before n) t rest names stands h = on_def_name-hears texts before n t rest names
  step-hears texts (in_params before n ns) t rest names stands h = grown-step (in_params before n ns) t names (on_params-grown before n ns t) h
  step-hears texts (has_params before n ns) t rest names stands h = grown-step (has_params before n ns) t names (on_param-grown before n ns t) h
  step-hears texts (after_params before n ps) t rest names stands h = grown-step (after_params before n ps) t names (on_params_end-grown before n ps t) h
  step-hears texts (after_colon os (outer before hd)) t rest names stands h = grown-step (after_colon os (outer before hd)) t names (on_colon-grown os before hd t) h
  step-hears texts (after_newline os (outer before hd)) t rest names stands h = grown-step (after_newline os (outer before hd)) t names (on_newline-grown os before hd t) h
  step-hears texts (done c) t rest names stands h = tt

  -- ---- the names that a function's names have to differ from

  in_function-heard : (b : Bool) (ks : List Kind) (names : st.Names) → IsTrue b → HearsIn (if b then Some ks else None) names → (i : List ℕ) → is_new_in names i ≡ is_new i ks
  in_function-heard true ks names is h = h
  in_function-heard false ks names is h = absurd (false≢true is)

  -- those of a statement and those before it
  global-new : (os : List Outer) (at : Spot) (ns : Option Names) (i : List ℕ) → is_new i (spot_heard os at (global_word ∷ spell_names_before ns [])) ≡ is_new_name ns i (spot_heard os at)
  global-new os at None i = new-spelled (spot-tokens os at) i (global_word ∷ []) ∙ and_true _
  global-new os at (Some ns) i =
      new-spelled (joined (spot-tokens os at) (first global_word (names-tokens ns))) i (comma ∷ []) ∙ and_true _
      ∙ new-spelled (spot-tokens os at) i (global_word ∷ spell_names ns []) ∙ sym (new-spelled (spot-tokens os at) i (spell_names ns []))

  params-new : (ns : Option Names) (i : List ℕ) → is_new i (spell_names_before ns []) ≡ is_new_name ns i (λ rest. rest)
  params-new None i = refl
  params-new (Some ns) i = new-spelled (names-tokens ns) i (comma ∷ []) ∙ and_true _

  pub hears-new : (names : st.Names) (s : State) → state_stands s → Hears s names → NewAs place names s
  hears-new names (in_global os at ns) stands h = λ i. in_function-heard (spot_around os at).in_function _ names stands.2 h i ∙ global-new os at ns i
  hears-new names (in_params before n ns) stands h = λ i. h i ∙ params-new ns i
  hears-new names _ stands h = tt
