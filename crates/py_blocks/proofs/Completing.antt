-- Each cell that has begun goes on to one that ends with no more than what is forced of it.
use Rattle.std.proofs.Common.{◌≡◌, ℕ, zero, suc, ◌≤◌, ◌<◌, max, Bool, true, false, IsTrue, ◌&&◌, if◌then◌else◌, nat_le, drop, List, [], ◌∷◌, ◌++◌, length, Option, Some, None, refl, ap, ◌∙◌, sym, subst, length-append, arith}
use Rattle.std.specs.Prelude.{pos}
use Rattle.std.proofs.lemmas.Bool.{false≢true}
use Rattle.py_token.specs.declared.kinds.Kind.{Kind}
use Rattle.py_token.specs.declared.kinds.Kind.TheVariants as t
use Rattle.py_tree.specs.declared.expressions.Expr.{Expr}
use Rattle.py_tree.specs.declared.expressions.Op.{Op}
use Rattle.py_tree.specs.declared.expressions.Target as tree_of
use Rattle.py_tree.specs.declared.statements.Stmt.{Stmt}
use Rattle.py_grammar.specs.Words.{in_word, assign_sign, open_parenthesis, close_parenthesis, open_bracket, close_bracket, colon, comma}
use Rattle.py_grammar.specs.Expressions.{plain, ors_one, ands_one, compared, compares_one, sums_one, products_one, unsigned, Expression, Ors, Ands, Primary, name, number, index, Exprs, single, tuple, Elements, elements_one, elements_more, spell_primary}
use Rattle.py_grammar.specs.Readings as r
use Rattle.py_grammar.specs.Readings.{Picked, picked, upper, no_upper, related, added, scaled, Lower, lower, no_lower, in_index, opened, listed, Reading, wants, has, begun, bare, narrow, undivided, whole, reading_stands}
use Rattle.py_grammar.specs.Statements as g
use Rattle.py_grammar.specs.Statements.{Places, places_more, targets, Targets, Simple, word, give, declare, delete, assign, augment, show, Statements, statements_one, simple, Block, indented, inline, choose, otherwise, while_true, for_each, define, if_true, else_if, variables, Names, Cell, params}
use Rattle.py_grammar.specs.States.{Outer, outer, Spot, own, behind_head, Purpose, showing, giving, deleting, assigning, augmenting, Lead, lead_if, lead_elif, lead_while, lead_for, State, line, in_simple, after_word, in_global, has_global, in_test, in_variables, has_variables, after_else, after_def, after_def_name, in_params, has_params, after_params, after_colon, after_newline, done, primary_alone, target_of, places_of, targets_of, place_of, add_name, close, ended, fits, if_allowed, then_simple, then_test, ends as ends_with, if_made, assigns, first_place, more_places, undivided_targets, spot_heard, is_new_name, params_of, step, start, run, StandsAt, purpose_stands, state_stands}
use Rattle.py_grammar.specs.AloneMachine.{step_alone, run_alone}
use Rattle.py_grammar.proofs.AloneRead.{then_alone, alone-append, alone-read}
use Rattle.py_grammar.proofs.Bare.{bare_is}
use Rattle.py_grammar.proofs.Completed.{fresh_name, fresh_name-new}
use Rattle.py_grammar.proofs.Failing.{stands_at}
use Rattle.py_grammar.proofs.Keeps.{Keeps, step-keeps}
use Rattle.py_frames.specs.declared.frames.State as reading
use Rattle.py_frames.specs.declared.frames.State.TheVariants.{Wants, Has, Compared, AfterIs, AfterIsNot, AfterNot, AfterDot, AfterMethod}
use Rattle.py_frames.specs.declared.frames.Value.{Value}
use Rattle.py_frames.specs.declared.frames.Frame.{Frame}
use Rattle.py_frames.specs.declared.frames.Hole.TheVariants as hole_of
use Rattle.py_frames.specs.declared.seeing.Sight.{Sight}
use Rattle.py_frames.specs.Values.{beside, places, level}
use Rattle.py_frames.specs.Steps as e
use Rattle.py_frames.specs.Ends as ex
use Rattle.py_frames.specs.Targets.{sight, sight_if}
use Rattle.py_frames.specs.Forced.{loose, forced, reach, AddsAt, EndsAs, Ending, a_name, bracket}
use Rattle.py_frames.specs.Held.{target_primary, target_expression, target_elements, value_primary, frame_tuple, held}
use Rattle.py_frames.specs.Kept.{kept_elements}
use Rattle.py_frames.proofs.Ended.{same, and_then, beside-adds}
use Rattle.py_frames.proofs.AtEnd.{ended-as, operator-as}
use Rattle.py_frames.proofs.Completing.{Next, Leads, here, onward as one_more, Outermost, alone, in_tuple, Completion, completes, blank}
use Rattle.py_frames.proofs.Wholes.{reading-ended}
use Rattle.py_blocks.specs.declared.state.Purpose as purpose_of
use Rattle.py_blocks.specs.declared.state.Purpose.TheVariants as purpose
use Rattle.py_blocks.specs.Blocks.{Texts}
use Rattle.py_blocks.specs.Steps as m
use Rattle.py_blocks.specs.Steps.{Names as Noted}
use Rattle.py_blocks.specs.Held.{held_done, held_state}
use Rattle.py_blocks.specs.Follows.{Hears}
use Rattle.py_blocks.specs.Forced.{in_purpose, forced_now}
use Rattle.py_blocks.specs.Completes.{Adds, ReadingAdds, Finishes, Sees, Closing, statement, dedent, finish, goes, item, ends, assigned, after_word as word_ends, global_name, after_global, test, head, variable, variables as in_comes, after_else as else_ends, after_def as def_named, after_name, no_param, params as params_end, after_params as params_colon, block, indent}
use Rattle.py_blocks.proofs.Closing.{closing-adds, equal, no-more}
use Rattle.py_blocks.proofs.Moves.{shown, moves-held}
use Rattle.py_blocks.proofs.Heard.{HearsTo, step-hears, hears-new}

pub data Closes : State → List Kind → Cell → Type 0 where
  at_end : (c : Cell) → Closes (done c) [] c
  onward : (s u : State) (t : Kind) (ts : List Kind) (c : Cell) → step s t ≡ Some u → ((place : ℕ → ℕ) (texts : Texts) (rest : List Kind) → Closing (held_state place texts s (t ∷ rest)) t) → Closes u ts c → Closes s (t ∷ ts) c

pub record CellCloses (s : State) : Type 0 where
  pub more : List Kind
  pub cell : Cell
  pub closes : Closes s more cell

abbrev Can : State → Kind → Type 0
Can s t = (place : ℕ → ℕ) (texts : Texts) (rest : List Kind) → Closing (held_state place texts s (t ∷ rest)) t

comes : {s u : State} (t : Kind) → step s t ≡ Some u → Can s t → CellCloses u → CellCloses s
comes {s} {u} t e k c = record { more = t ∷ c.more; cell = c.cell; closes = onward s u t c.more c.cell e k c.closes }

-- ---- what ends with a value

shown-adds : (at : ℕ) (p : List ℕ) (o : Option Value) → EndsAs p o → Finishes at p (m.shown o)
shown-adds at p None e = tt
shown-adds at p (Some v) e = equal e

given-adds : (at : ℕ) (p : List ℕ) (o : Option Value) → EndsAs p o → Finishes at p (m.given o)
given-adds at p None e = tt
given-adds at p (Some v) e = equal e

assigned-adds : (at : ℕ) (x : Sight) (p : List ℕ) (o : Option Value) → EndsAs p o → Finishes at (beside x.under p) (m.assigned x o)
assigned-adds at x p None e = tt
assigned-adds at x p (Some v) e = beside-adds x.under (equal e)

augmented-adds : (at : ℕ) (to : tree_of.Target) (op : Op) (under p : List ℕ) (o : Option Value) → EndsAs p o → Finishes at (beside under p) (m.augmented to op under o)
augmented-adds at to op under p None e = tt
augmented-adds at to op under p (Some v) e = beside-adds under (equal e)

-- ---- lines

abbrev single_of : Primary → Exprs
single_of p = single (plain (ors_one (ands_one (compared (compares_one (sums_one (products_one (unsigned p))))))))

abbrev zero_line : Simple
zero_line = show (single_of (number (pos 0)))

line-closes : (os : List Outer) (before : Option Statements) → CellCloses (line os before)
line-closes [] before = comes t.End refl (λ place texts rest. finish _ _) (record { more = []; cell = before; closes = at_end before })
line-closes (o ∷ os) (Some ss) = comes t.Dedent refl (λ place texts rest. dedent _ _ _ _) (line-closes os (close o (indented ss)))
line-closes (o ∷ os) None =
    comes (t.Number (pos 0)) refl (λ place texts rest. statement _ _ _ (pos 0))
    (comes t.Newline refl (λ place texts rest. ends _ purpose.Showing _ (λ n. same _))
    (comes t.Dedent refl (λ place texts rest. dedent _ _ _ _) (line-closes os (close o (indented (statements_one (simple zero_line)))))))

ended-closes : (os : List Outer) (at : Spot) (s : Simple) → CellCloses (ended os at s)
ended-closes os (own before) s = line-closes os _
ended-closes os (behind_head o) s = line-closes os _

colon-closes : (os : List Outer) (o : Outer) → CellCloses (after_colon os o)
colon-closes os o =
    comes (t.Number (pos 0)) refl (λ place texts rest. block _ _ (pos 0))
    (comes t.Newline refl (λ place texts rest. ends _ purpose.Showing _ (λ n. same _)) (ended-closes os (behind_head o) zero_line))

-- ---- an expression of a simple statement

abbrev Fits : Purpose → Reading → Type 0
Fits deleting x = IsTrue (narrow x)
Fits _ x = Unit {0}

goes_on : (os : List Outer) (at : Spot) (u : Purpose) (x : Reading) → Fits u x → then_simple os at u (Some x) ≡ Some (in_simple os at u x)
goes_on os at showing x f = refl
goes_on os at giving x f = refl
goes_on os at deleting x f = ap (λ b. if_allowed b (in_simple os at deleting x)) f
goes_on os at (assigning ts) x f = refl
goes_on os at (augmenting to by) x f = refl

next-fits : (u : Purpose) {x y : Reading} {t : Kind} → Next x t y → Fits u x → Fits u y
next-fits showing n f = tt
next-fits giving n f = tt
next-fits deleting n f = n.narrows f
next-fits (assigning ts) n f = tt
next-fits (augmenting to by) n f = tt

simple-leads : (os : List Outer) (at : Spot) (u : Purpose) {x y : Reading} {ts : List Kind} → Leads x ts y → Fits u x → (Fits u y → CellCloses (in_simple os at u y)) → CellCloses (in_simple os at u x)
simple-leads os at u (here x) f c = c f
simple-leads os at u (one_more x z y t ts n l) f c =
    comes t (n.simply os at u ∙ ap (then_simple os at u) n.reads ∙ goes_on os at u z (next-fits u n f)) (λ place texts rest. goes _ _ _ t (n.ending place rest)) (simple-leads os at u l (next-fits u n f) c)

abbrev Last : List r.Opened → List Picked → Option Ors → Option Ands → ℕ → Lower → Primary → Reading
Last os ps o a n w p = has os (upper ps None o a n) w p

-- it is a whole
whole-last : (os : List r.Opened) (ps : List Picked) (o : Option Ors) (a : Option Ands) (n : ℕ) (w : Lower) (p : Primary) → Outermost os → (x : Exprs) × (whole (Last os ps o a n w p) ≡ Some x)
whole-last _ ps o a n w p alone = (_, refl)
whole-last _ ps o a n w p (in_tuple es) = (_, refl)

give-closes : (os : List Outer) (at : Spot) (x : Reading) (c : Completion x) → CellCloses (in_simple os at giving x)
give-closes os at x c = simple-leads os at giving c.leads tt (λ f. let z = whole-last c.os c.ps c.o c.a c.n c.w c.p c.outermost in
    comes t.Newline (ap (λ o. ends_with os at (if_made give o)) z.1) (λ place texts rest. ends _ purpose.Giving _ (λ n. given-adds n _ (ex.ended (held place (Last c.os c.ps c.o c.a c.n c.w c.p) (t.Newline ∷ rest))) (ended-as (held place (Last c.os c.ps c.o c.a c.n c.w c.p) (t.Newline ∷ rest))))) (ended-closes os at (give z.0)))

assign-closes : (os : List Outer) (at : Spot) (ts : Targets) (x : Reading) (c : Completion x) → CellCloses (in_simple os at (assigning ts) x)
assign-closes os at ts x c = simple-leads os at (assigning ts) c.leads tt (λ f. let z = whole-last c.os c.ps c.o c.a c.n c.w c.p c.outermost in
    comes t.Newline (ap (λ o. ends_with os at (if_made (assign ts) o)) z.1) (λ place texts rest. ends _ _ _ (λ n. assigned-adds n _ _ (ex.ended (held place (Last c.os c.ps c.o c.a c.n c.w c.p) (t.Newline ∷ rest))) (ended-as (held place (Last c.os c.ps c.o c.a c.n c.w c.p) (t.Newline ∷ rest))))) (ended-closes os at (assign ts z.0)))

augment-closes : (os : List Outer) (at : Spot) (to : g.Target) (by : g.Augmentation) (x : Reading) (c : Completion x) → CellCloses (in_simple os at (augmenting to by) x)
augment-closes os at to by x c = simple-leads os at (augmenting to by) c.leads tt (λ f. let z = whole-last c.os c.ps c.o c.a c.n c.w c.p c.outermost in
    comes t.Newline (ap (λ o. ends_with os at (if_made (augment to by) o)) z.1) (λ place texts rest. ends _ _ _ (λ n. augmented-adds n _ _ _ _ (ex.ended (held place (Last c.os c.ps c.o c.a c.n c.w c.p) (t.Newline ∷ rest))) (ended-as (held place (Last c.os c.ps c.o c.a c.n c.w c.p) (t.Newline ∷ rest))))) (ended-closes os at (augment to by z.0)))

-- ---- what may turn out to be targets

-- shown as it is, if it was forced as it is
shows : (os : List Outer) (at : Spot) (os' : List r.Opened) (ps : List Picked) (o : Option Ors) (a : Option Ands) (n : ℕ) (w : Lower) (p : Primary) → Outermost os'
    → ((place : ℕ → ℕ) (rest : List Kind) → EndsAs (forced true (held place (Last os' ps o a n w p) rest)) (ex.ended (held place (Last os' ps o a n w p) rest))) → CellCloses (in_simple os at showing (Last os' ps o a n w p))
shows os at os' ps o a n w p k f =
    let z = whole-last os' ps o a n w p k in
    comes t.Newline (ap (λ o. ends_with os at (if_made show o)) z.1) (λ place texts rest. ends _ purpose.Showing _ (λ i. shown-adds i _ _ (f place (t.Newline ∷ rest)))) (ended-closes os at (show z.0))

assigns-zero : (os : List Outer) (at : Spot) (ts : Targets) → CellCloses (in_simple os at (assigning ts) begun)
assigns-zero os at ts = assign-closes os at ts begun (completes begun tt)

-- one target, or one value alone
one-shows : (os : List Outer) (at : Spot) (p : Primary) → CellCloses (in_simple os at showing (has [] no_upper no_lower p))
one-shows os at (name n) = comes assign_sign refl (λ place texts rest. assigned _ _ (λ i. same _)) (assigns-zero os at _)
one-shows os at (index q x) = comes assign_sign refl (λ place texts rest. assigned _ _ (λ i. same _)) (assigns-zero os at _)
one-shows os at p = shows os at [] [] None None zero no_lower p alone (λ place rest. refl)

element-target : (a : Expression) → target_expression a ≡ true → (to : g.Target) × (target_of (primary_alone a) ≡ Some to)
element-target (plain (ors_one (ands_one (compared (compares_one (sums_one (products_one (unsigned (name n))))))))) e = (_, refl)
element-target (plain (ors_one (ands_one (compared (compares_one (sums_one (products_one (unsigned (index p a))))))))) e = (_, refl)
element-target _ e = absurd (false≢true e)

first-of : (b c : Bool) → (b && c) ≡ true → (b ≡ true) × (c ≡ true)
first-of true c e = (refl, e)
first-of false c e = absurd (false≢true e)

elements-places : (es : Elements) → target_elements es ≡ true → (ps : Places) × (places_of es ≡ Some ps)
elements-places (elements_one a) e = let x = element-target a e in (_, ap first_place x.1)
elements-places (elements_more es a) e =
    let b = first-of (target_elements es) (target_expression a) e in
    let x = elements-places es b.0 in
    let y = element-target a b.1 in
    (_, ap (λ o. more_places o (target_of (primary_alone a))) x.1 ∙ ap (more_places (Some x.0)) y.1)

abbrev in_list : ℕ → List ℕ → List Expr → Bool → Frame
in_list from under xs may = record { from = from; under = under; hole = hole_of.Tuple xs may }

-- a tuple that is no list of targets
tuple-as : (may : Bool) (from : ℕ) (under : List ℕ) (xs : List Expr) (v : Value) → may ≡ false → EndsAs (forced true (Has (in_list from under xs may ∷ []) v)) (ex.ended (Has (in_list from under xs may ∷ []) v))
tuple-as may from under xs v e = subst (λ b. EndsAs (forced true (Has (in_list from under xs b ∷ []) v)) (ex.ended (Has (in_list from under xs b ∷ []) v))) (sym e) refl

dropped : {at : ℕ} (u : List ℕ) (v : Value) → AddsAt at (beside (drop 1 u) v.under) (drop 1 (beside u (places v)))
dropped [] v = same _
dropped (y ∷ u) v = same _

list-sees : (at : ℕ) (c : Bool) (under : List ℕ) (xs : List Expr) (v : Value) → c ≡ true → Sees at (beside (drop 1 under) (if c then v.under else places v)) (sight_if true c xs (drop 1 (beside under (places v))))
list-sees at true under xs v k = dropped under v
list-sees at false under xs v k = absurd (false≢true k)

-- a list of targets
tuple-sees : (at : ℕ) (may : Bool) (from : ℕ) (under : List ℕ) (xs : List Expr) (v : Value) → may ≡ true → v.target ≡ true → Sees at (forced true (Has (in_list from under xs may ∷ []) v)) (sight (Has (in_list from under xs may ∷ []) v))
tuple-sees at may from under xs v e k =
    subst (λ b. Sees at (forced true (Has (in_list from under xs b ∷ []) v)) (sight (Has (in_list from under xs b ∷ []) v))) (sym e) (list-sees at v.target under (xs ++ v.tree ∷ []) v k)

abbrev Tupled : Elements → Primary → Reading
Tupled es p = has (listed es ∷ []) no_upper no_lower p

tuple-assigns : (os : List Outer) (at : Spot) (es : Elements) (p : Primary) (to : g.Target) → target_elements es ≡ true → target_of (Some p) ≡ Some to → target_primary p ≡ true → CellCloses (in_simple os at showing (Tupled es p))
tuple-assigns os at es p to e k j =
    let ps = elements-places es e in
    comes assign_sign (ap (λ o. assigns os at showing (undivided_targets (more_places o (target_of (Some p))))) ps.1 ∙ ap (λ o. assigns os at showing (undivided_targets (more_places (Some ps.0) o))) k) (λ place texts rest. assigned _ _ (λ i. tuple-sees i (target_elements es) (frame_tuple place es (spell_primary p (assign_sign ∷ rest))).from (frame_tuple place es (spell_primary p (assign_sign ∷ rest))).under (kept_elements place es (comma ∷ spell_primary p (assign_sign ∷ rest))) (value_primary place p (assign_sign ∷ rest)) e j)) (assigns-zero os at (targets (places_more ps.0 to)))

-- an item of it, if it is none
tuple-extends : (os : List Outer) (at : Spot) (es : Elements) (p : Primary) → target_elements es ≡ true → ((place : ℕ → ℕ) (rest : List Kind) → target_primary p ≡ false) → CellCloses (in_simple os at showing (Tupled es p))
tuple-extends os at es p e k =
    comes open_bracket refl (λ place texts rest. item _ purpose.Showing _ (λ i. extended i (target_elements es) (target_primary p) (frame_tuple place es (spell_primary p (open_bracket ∷ rest))).from (frame_tuple place es (spell_primary p (open_bracket ∷ rest))).under (value_primary place p (open_bracket ∷ rest)) e (k place rest)))
    (comes (t.Name blank) refl (λ place texts rest. goes _ _ _ _ (a_name _ blank))
    (comes close_bracket refl (λ place texts rest. goes _ _ _ _ (bracket _ _)) (tuple-assigns os at es (index p _) _ e refl refl)))
  where
    extended : (i : ℕ) (may c : Bool) (from : ℕ) (under : List ℕ) (v : Value) → may ≡ true → c ≡ false → AddsAt i (if (true && may) && true then beside (drop 1 under) (if c then v.under else places v) else from ∷ beside under (places v)) (if (true && may) && true then beside (drop 1 under) (beside (places v) []) else from ∷ beside under (v.from ∷ beside (places v) []))
    extended i true false from under v e k = beside-adds (drop 1 under) (no-more (places v))
    extended i true true from under v e k = absurd (false≢true (sym k))
    extended i false c from under v e k = absurd (false≢true e)

tuple-shows : (os : List Outer) (at : Spot) (es : Elements) (p : Primary) (b : Bool) → target_elements es ≡ b → CellCloses (in_simple os at showing (Tupled es p))
tuple-shows os at es (name n) true e = tuple-assigns os at es (name n) _ e refl refl
tuple-shows os at es (index q x) true e = tuple-assigns os at es (index q x) _ e refl refl
tuple-shows os at es p true e = tuple-extends os at es p e (λ place rest. refl)
tuple-shows os at es p false e = shows os at (listed es ∷ []) [] None None zero no_lower p (in_tuple es) (λ place rest. tuple-as (target_elements es) (frame_tuple place es (spell_primary p rest)).from (frame_tuple place es (spell_primary p rest)).under (kept_elements place es (comma ∷ spell_primary p rest)) (value_primary place p rest) e)

-- an operator is before what has ended last
abbrev AfterOperator : reading.State → Type 0
AfterOperator (Has (x ∷ fs) v) = nat_le 2 (level x.hole) ≡ true
AfterOperator _ = ⊥

operated : (x : reading.State) → AfterOperator x → EndsAs (forced true x) (ex.ended x)
operated (Has (x ∷ fs) v) e = operator-as x fs v e
operated (Has [] v) e = elim e [ ]
operated (Wants fs) e = elim e [ ]
operated (Compared fs c) e = elim e [ ]
operated (AfterIs fs c) e = elim e [ ]
operated (AfterIsNot fs c) e = elim e [ ]
operated (AfterNot fs c) e = elim e [ ]
operated (AfterDot fs v) e = elim e [ ]
operated (AfterMethod fs v n) e = elim e [ ]

last-shows : (os : List Outer) (at : Spot) (os' : List r.Opened) (ps : List Picked) (o : Option Ors) (a : Option Ands) (n : ℕ) (w : Lower) (p : Primary) → Outermost os' → CellCloses (in_simple os at showing (Last os' ps o a n w p))
last-shows os at os' ps o a n (lower x y z (s ∷ ss)) p k = shows os at os' ps o a n (lower x y z (s ∷ ss)) p k (λ place rest. operated (held place (Last os' ps o a n (lower x y z (s ∷ ss)) p) rest) refl)
last-shows os at os' ps o a n (lower x y (Some (scaled b s)) []) p k = shows os at os' ps o a n (lower x y (Some (scaled b s)) []) p k (λ place rest. operated (held place (Last os' ps o a n (lower x y (Some (scaled b s)) []) p) rest) refl)
last-shows os at os' ps o a n (lower x (Some (added b s)) None []) p k = shows os at os' ps o a n (lower x (Some (added b s)) None []) p k (λ place rest. operated (held place (Last os' ps o a n (lower x (Some (added b s)) None []) p) rest) refl)
last-shows os at os' ps o a n (lower (Some (related c s)) None None []) p k = shows os at os' ps o a n (lower (Some (related c s)) None None []) p k (λ place rest. operated (held place (Last os' ps o a n (lower (Some (related c s)) None None []) p) rest) refl)
last-shows os at os' ps o a (suc n) (lower None None None []) p k = shows os at os' ps o a (suc n) no_lower p k (λ place rest. operated (held place (Last os' ps o a (suc n) no_lower p) rest) refl)
last-shows os at os' ps o (Some a) zero (lower None None None []) p k = shows os at os' ps o (Some a) zero no_lower p k (λ place rest. operated (held place (Last os' ps o (Some a) zero no_lower p) rest) refl)
last-shows os at os' ps (Some o) None zero (lower None None None []) p k = shows os at os' ps (Some o) None zero no_lower p k (λ place rest. operated (held place (Last os' ps (Some o) None zero no_lower p) rest) refl)
last-shows os at os' (picked b y ∷ ps) None None zero (lower None None None []) p k = shows os at os' (picked b y ∷ ps) None None zero no_lower p k (λ place rest. operated (held place (Last os' (picked b y ∷ ps) None None zero no_lower p) rest) refl)
last-shows os at _ [] None None zero (lower None None None []) p alone = one-shows os at p
last-shows os at _ [] None None zero (lower None None None []) p (in_tuple es) = tuple-shows os at es p (target_elements es) refl

-- `del` of one target
one-deletes : (os : List Outer) (at : Spot) (p : Primary) → CellCloses (in_simple os at deleting (has [] no_upper no_lower p))
one-deletes os at (name n) = comes t.Newline refl (λ place texts rest. ends _ purpose.Deleting _ (λ i. same _)) (ended-closes os at _)
one-deletes os at (index q x) = comes t.Newline refl (λ place texts rest. ends _ purpose.Deleting _ (λ i. same _)) (ended-closes os at _)
one-deletes os at p =
    comes open_bracket refl (λ place texts rest. item _ purpose.Deleting _ (λ i. no-more _))
    (comes (t.Name blank) refl (λ place texts rest. goes _ _ _ _ (a_name _ blank))
    (comes close_bracket refl (λ place texts rest. goes _ _ _ _ (bracket _ _))
    (comes t.Newline refl (λ place texts rest. ends _ purpose.Deleting _ (λ i. same _)) (ended-closes os at _))))

last-deletes : (os : List Outer) (at : Spot) (os' : List r.Opened) (ps : List Picked) (o : Option Ors) (a : Option Ands) (n : ℕ) (w : Lower) (p : Primary) → Outermost os' → IsTrue (narrow (Last os' ps o a n w p)) → CellCloses (in_simple os at deleting (Last os' ps o a n w p))
last-deletes os at _ ps o a n w p alone k =
    let b = bare_is (upper ps None o a n) w k in
    subst (λ u. CellCloses (in_simple os at deleting (has [] u w p))) (sym b.0) (subst (λ x. CellCloses (in_simple os at deleting (has [] no_upper x p))) (sym b.1) (one-deletes os at p))
last-deletes os at _ ps o a n w p (in_tuple es) k = absurd (false≢true k)

simple-closes : (os : List Outer) (at : Spot) (u : Purpose) (x : Reading) → Completion x → Fits u x → CellCloses (in_simple os at u x)
simple-closes os at showing x c f = simple-leads os at showing c.leads tt (λ k. last-shows os at c.os c.ps c.o c.a c.n c.w c.p c.outermost)
simple-closes os at giving x c f = give-closes os at x c
simple-closes os at deleting x c f = simple-leads os at deleting c.leads f (λ k. last-deletes os at c.os c.ps c.o c.a c.n c.w c.p c.outermost k)
simple-closes os at (assigning ts) x c f = assign-closes os at ts x c
simple-closes os at (augmenting to by) x c f = augment-closes os at to by x c

-- ---- heads

next-heads : (l : Lead) {x y : Reading} {t : Kind} → Next x t y → IsTrue (fits l x) → IsTrue (fits l y)
next-heads lead_if n f = n.divides f
next-heads (lead_elif bs) n f = n.divides f
next-heads lead_while n f = n.divides f
next-heads (lead_for vs) n f = refl

test-leads : (os : List Outer) (before : Option Statements) (l : Lead) {x y : Reading} {ts : List Kind} → Leads x ts y → IsTrue (fits l x) → (IsTrue (fits l y) → CellCloses (in_test os before l y)) → CellCloses (in_test os before l x)
test-leads os before l (here x) f c = c f
test-leads os before l (one_more x z y t ts n k) f c =
    let g = next-heads l n f in
    comes t (ap (then_test os before l x t) n.reads ∙ ap (λ b. if_allowed b (in_test os before l z)) g) (λ place texts rest. test _ _ t (n.ending place rest)) (test-leads os before l k g c)

last-heads : (os : List Outer) (before : Option Statements) (l : Lead) (os' : List r.Opened) (ps : List Picked) (o : Option Ors) (a : Option Ands) (n : ℕ) (w : Lower) (p : Primary) → Outermost os' → IsTrue (fits l (Last os' ps o a n w p)) → CellCloses (in_test os before l (Last os' ps o a n w p))
last-heads os before lead_if _ ps o a n w p alone f = comes colon refl (λ place texts rest. head _ _ _ (reading-ended place (Last [] ps o a n w p) (colon ∷ rest))) (colon-closes os _)
last-heads os before (lead_elif bs) _ ps o a n w p alone f = comes colon refl (λ place texts rest. head _ _ _ (reading-ended place (Last [] ps o a n w p) (colon ∷ rest))) (colon-closes os _)
last-heads os before lead_while _ ps o a n w p alone f = comes colon refl (λ place texts rest. head _ _ _ (reading-ended place (Last [] ps o a n w p) (colon ∷ rest))) (colon-closes os _)
last-heads os before (lead_for vs) _ ps o a n w p alone f = comes colon refl (λ place texts rest. head _ _ _ (reading-ended place (Last [] ps o a n w p) (colon ∷ rest))) (colon-closes os _)
last-heads os before (lead_for vs) _ ps o a n w p (in_tuple es) f = comes colon refl (λ place texts rest. head _ _ _ (reading-ended place (Last (listed es ∷ []) ps o a n w p) (colon ∷ rest))) (colon-closes os _)
last-heads os before lead_if _ ps o a n w p (in_tuple es) f = absurd (false≢true f)
last-heads os before (lead_elif bs) _ ps o a n w p (in_tuple es) f = absurd (false≢true f)
last-heads os before lead_while _ ps o a n w p (in_tuple es) f = absurd (false≢true f)

test-closes : (os : List Outer) (before : Option Statements) (l : Lead) (x : Reading) → Completion x → IsTrue (fits l x) → CellCloses (in_test os before l x)
test-closes os before l x c f = test-leads os before l c.leads f (λ k. last-heads os before l c.os c.ps c.o c.a c.n c.w c.p c.outermost k)

variables-closes : (os : List Outer) (before : Option Statements) (ns : Names) → CellCloses (has_variables os before ns)
variables-closes os before ns = comes in_word refl (λ place texts rest. in_comes _ _) (test-closes os before (lead_for (variables ns)) begun (completes begun tt) refl)

params-close : (before : Option Statements) (n : List ℕ) (ps : g.Params) → CellCloses (after_params before n ps)
params-close before n ps = comes colon refl (λ place texts rest. params_colon _ _ _) (colon-closes [] _)

in_params-closes : (before : Option Statements) (n : List ℕ) (ns : Option Names) → CellCloses (in_params before n ns)
in_params-closes before n ns = comes close_parenthesis refl (λ place texts rest. no_param _ _ _) (params-close before n (params_of ns))

name-closes : (before : Option Statements) (n : List ℕ) → CellCloses (after_def_name before n)
name-closes before n = comes open_parenthesis refl (λ place texts rest. after_name _ n) (in_params-closes before n None)

fit : (u : Purpose) (x : Reading) (a : g.Around) → purpose_stands u x a → Fits u x
fit showing x a h = tt
fit giving x a h = tt
fit deleting x a h = h
fit (assigning ts) x a h = tt
fit (augmenting to by) x a h = tt

pub state-closes : (s : State) → state_stands s → CellCloses s
state-closes (line os before) h = line-closes os before
state-closes (in_simple os at u x) h = simple-closes os at u x (completes x h.3) (fit u x _ h.2)
state-closes (after_word os at w) h = comes t.Newline refl (λ place texts rest. word_ends _ _) (ended-closes os at (word w))
state-closes (in_global os at ns) h =
    let n = fresh_name ns (spot_heard os at) in
    comes (t.Name n) (ap (λ b. if_allowed b (has_global os at (add_name ns n))) (fresh_name-new ns (spot_heard os at))) (λ place texts rest. global_name _ _ n) (comes t.Newline refl (λ place texts rest. after_global _ _) (ended-closes os at _))
state-closes (has_global os at ns) h = comes t.Newline refl (λ place texts rest. after_global _ _) (ended-closes os at (declare ns))
state-closes (in_test os before l x) h = test-closes os before l x (completes x h.4) h.3
state-closes (in_variables os before ns) h = comes (t.Name blank) refl (λ place texts rest. variable _ _ blank) (variables-closes os before (add_name ns blank))
state-closes (has_variables os before ns) h = variables-closes os before ns
state-closes (after_else os before bs) h = comes colon refl (λ place texts rest. else_ends _ _ _) (colon-closes os _)
state-closes (after_def before) h = comes (t.Name blank) refl (λ place texts rest. def_named _ blank) (name-closes before blank)
state-closes (after_def_name before n) h = name-closes before n
state-closes (in_params before n ns) h = in_params-closes before n ns
state-closes (has_params before n ns) h = comes close_parenthesis refl (λ place texts rest. params_end _ _ _) (params-close before n (params ns))
state-closes (after_params before n ps) h = params-close before n ps
state-closes (after_colon os o) h = colon-closes os o
state-closes (after_newline os o) h = comes t.Indent refl (λ place texts rest. indent _ _) (line-closes (o ∷ os) None)
state-closes (done c) h = record { more = []; cell = c; closes = at_end c }

-- ---- it reads to the end, and adds no more

pub closes-run : {s : State} {ts : List Kind} {c : Cell} → Closes s ts c → run s ts ≡ Some (done c)
closes-run (at_end c) = refl
closes-run (onward s u t ts c e k l) = ap (λ o. elim o [ None ↦ None | Some v ↦ run v ts ]) e ∙ closes-run l

-- ---- as one function alone

pub record FunctionCloses (s : State) : Type 0 where
  pub more : List Kind
  pub cell : Cell
  pub closes : Closes s more cell
  pub alone : run_alone s more ≡ Some (done cell)

no-tokens : (ts : List Kind) → run start ts ≡ Some (line [] None) → length ts ≡ 0
no-tokens ts e =
    let stands : StandsAt ts (line [] None) = stands_at ts (line [] None) e in
    omega (arith, ap length (stands []), length-append ts [])

-- after the first token the end may come where a line begins at the top
pub function-closes : {s : State} {more : List Kind} {c : Cell} (ts : List Kind) → 0 < length ts → run_alone start ts ≡ Some s → Closes s more c → FunctionCloses s
function-closes ts n e (at_end c) = record { more = []; cell = c; closes = at_end c; alone = refl }
function-closes ts n e (onward (line [] None) u token more c a k l) = let z = no-tokens ts (alone-read ts start (line [] None) e) in absurd (omega (arith, n, z))
function-closes ts n e (onward (line [] (Some ss)) u token more c a k l) =
    record { more = t.End ∷ []; cell = Some ss; closes = onward (line [] (Some ss)) (done (Some ss)) t.End [] (Some ss) refl (λ place texts rest. finish _ _) (at_end (Some ss)); alone = refl }
function-closes ts n e (onward s u token more c a k l) =
    let same : step_alone s token ≡ Some u = a in
    let r = function-closes (ts ++ token ∷ []) (omega (arith, length-append ts (token ∷ []))) (alone-append ts (token ∷ []) start s e ∙ ap (then_alone []) same) l in
    record { more = token ∷ r.more; cell = r.cell; closes = onward s u token r.more r.cell a k r.closes; alone = ap (then_alone r.more) same ∙ r.alone }

module _ (place : ℕ → ℕ) (fair : (a b : ℕ) → place (max a b) ≡ max (place a) (place b)) where
  earlier : (n : ℕ) → place n ≤ place (suc n)
  earlier n = let e : max n (suc n) ≡ suc n = omega arith in let f = fair n (suc n) in let g = ap place e in omega (arith, f, g)

  weaker : {at most : ℕ} {p q : List ℕ} → at ≤ most → AddsAt at p q → AddsAt most p q
  weaker h e = record { each = λ d. omega (arith, h, e.each d) }

  stepped : (texts : Texts) (s : State) (t : Kind) (ts : List Kind) (names : Noted) (o : Option State) → shown place texts ts (step s t) ≡ shown place texts ts o → state_stands s → Hears s names → Closing (held_state place texts s (t ∷ ts)) t
      → Adds (place (length (t ∷ ts))) (forced_now (held_state place texts s (t ∷ ts))) (shown place texts ts o)
  stepped texts s t ts names o e stands h k =
      subst (Adds (place (length (t ∷ ts))) (forced_now (held_state place texts s (t ∷ ts)))) (moves-held place false texts names s t ts stands (hears-new place names s stands h) ∙ e)
      (closing-adds texts (place (length (t ∷ ts))) (place (length ts)) (held_state place texts s (t ∷ ts)) names t k)

  pub closes-add : (texts : Texts) {s : State} {ts : List Kind} {c : Cell} → Closes s ts c → (names : Noted) → state_stands s → Hears s names
      → AddsAt (place (length ts)) (forced_now (held_state place texts s ts)) (held_done place texts c (t.End ∷ [])).under
  closes-add texts (at_end c) names stands h = same _
  closes-add texts (onward s u t ts c e k l) names stands h =
      and_then (stepped texts s t ts names (Some u) (ap (shown place texts ts) e) stands h (k place texts ts))
      (weaker (earlier (length ts)) (closes-add texts l (m.renamed (held_state place texts s (t ∷ ts)) t names) (subst Keeps e (step-keeps s t stands)) (subst (HearsTo place _) e (step-hears place texts s t ts names stands h))))
