-- What is forced stays forced, over statements.
use Rattle.std.proofs.Common.{◌≡◌, ℕ, ◌-◌, Bool, true, false, if◌then◌else◌, List, [], ◌∷◌, ◌++◌, length, Option, Some, None, refl, sym, subst, arith}
use Rattle.py_token.specs.declared.kinds.Kind.{Kind}
use Rattle.py_token.specs.declared.kinds.Kind.TheVariants as t
use Rattle.py_token.specs.declared.kinds.Keyword.{Keyword}
use Rattle.py_token.specs.declared.kinds.Keyword.TheVariants as k
use Rattle.py_token.specs.declared.kinds.Symbol as sign_of
use Rattle.py_token.specs.declared.kinds.Symbol.TheVariants as s
use Rattle.py_tree.specs.declared.expressions.Op.{Op}
use Rattle.py_tree.specs.declared.expressions.Target.{Target}
use Rattle.py_tree.specs.declared.statements.Stmt.{Stmt}
use Rattle.py_grammar.specs.Words.{colon}
use Rattle.py_frames.specs.declared.frames.State as reading
use Rattle.py_frames.specs.declared.frames.State.TheVariants.{Wants, Has, Compared, AfterIs, AfterIsNot, AfterNot, AfterDot, AfterMethod}
use Rattle.py_frames.specs.declared.frames.Value.{Value}
use Rattle.py_frames.specs.declared.seeing.Sight.{Sight}
use Rattle.py_frames.specs.Values.{beside, places}
use Rattle.py_frames.specs.Steps as e
use Rattle.py_frames.specs.Ends as ex
use Rattle.py_frames.specs.Ends.{either_of, colon_or_end, is_begun, is_narrow}
use Rattle.py_frames.specs.Targets.{sight}
use Rattle.py_frames.specs.Forced as f
use Rattle.py_frames.specs.Forced.{forced, reach, Sooner, EndsAs, EndsSooner, SeesSooner}
use Rattle.py_frames.proofs.Forced.{same, and_then, none, cons, reach-beside, beside-grows, beside-none, step-grows}
use Rattle.py_frames.proofs.AtEnd.{ended-as, ended-sooner, seen-sooner}
use Rattle.py_blocks.specs.declared.state.Begun.{Begun}
use Rattle.py_blocks.specs.declared.state.Branches.{Branches}
use Rattle.py_blocks.specs.declared.state.Done.{Done}
use Rattle.py_blocks.specs.declared.state.Head.{Head}
use Rattle.py_blocks.specs.declared.state.Head.TheVariants as head
use Rattle.py_blocks.specs.declared.state.Last.{Last}
use Rattle.py_blocks.specs.declared.state.Last.TheVariants as last
use Rattle.py_blocks.specs.declared.state.Outer.{Outer}
use Rattle.py_blocks.specs.declared.state.Purpose.{Purpose}
use Rattle.py_blocks.specs.declared.state.Purpose.TheVariants as purpose
use Rattle.py_blocks.specs.declared.state.Reader.{Reader}
use Rattle.py_blocks.specs.declared.state.Simple.{Simple}
use Rattle.py_blocks.specs.declared.state.Spot.{Spot}
use Rattle.py_blocks.specs.declared.state.Spot.TheVariants as spot
use Rattle.py_blocks.specs.declared.state.State.{State}
use Rattle.py_blocks.specs.declared.state.State.TheVariants as h
use Rattle.py_blocks.specs.declared.state.Test.{Test}
use Rattle.py_blocks.specs.declared.state.Word.{Word}
use Rattle.py_blocks.specs.declared.simple.Sign.{Sign}
use Rattle.py_blocks.specs.declared.simple.Sign.TheVariants as sign
use Rattle.py_blocks.specs.Blocks.{Texts, nothing, add, settled, closed_in, closed, ended, spot_around, around_of}
use Rattle.py_blocks.specs.Steps as m
use Rattle.py_blocks.specs.Steps.{Names, begins_word, begins_line, on_line_word, assignment, moves, with_names, step}
use Rattle.py_blocks.specs.Follows.{run}
use Rattle.py_blocks.specs.Forced.{enclose, at_spot, in_simple, in_purpose, in_begun, forced_now, Grows}

-- ---- the order

more : (p q : List ℕ) → Sooner p (beside p q)
more p q = record { each = λ d. omega (arith, reach-beside p q d) }

no-more : (p : List ℕ) → Sooner p (beside p [])
no-more p = subst (Sooner p) (sym (beside-none p)) (same p)

equal : {p q : List ℕ} → p ≡ q → Sooner p q
equal {p} {q} e = subst (Sooner p) e (same p)

pub enclose-grows : (os : List Outer) {p q : List ℕ} → Sooner p q → Sooner (enclose os p) (enclose os q)
enclose-grows [] e = e
enclose-grows (o ∷ os) e = enclose-grows os (beside-grows o.before.under (cons o.from (beside-grows o.under e)))

spot-grows : (at : Spot) (os : List Outer) {p q : List ℕ} → Sooner p q → Sooner (at_spot at os p) (at_spot at os q)
spot-grows (spot.Own done) os e = enclose-grows os (beside-grows done.under e)
spot-grows (spot.Behind o) os e = enclose-grows (o ∷ os) e

simple-grows : (x : Simple) {p q : List ℕ} → Sooner p q → Sooner (in_simple x p) (in_simple x q)
simple-grows x e = spot-grows x.spot x.outers (cons x.from e)

begun-grows : (b : Begun) {p q : List ℕ} → Sooner p q → Sooner (in_begun b p) (in_begun b q)
begun-grows b e = enclose-grows b.outers (beside-grows b.before.under (cons b.from e))

later : (p q : List ℕ) (o : Option State) → Sooner p q → Grows q o → Grows p o
later p q None e g = tt
later p q (Some x) e g = and_then e g

allowed-grows : (b : Bool) (p : List ℕ) (x : State) → Sooner p (forced_now x) → Grows p (m.if_allowed b x)
allowed-grows true p x e = e
allowed-grows false p x e = tt

-- ---- what ends

closed_in-forced : (texts : Texts) (left : ℕ) (hd : Head) (os : List Outer) (o : Outer) (body : Done) → forced_now (closed_in texts left hd os o body) ≡ enclose (o ∷ os) body.under
closed_in-forced texts left (head.Branch arms test) os o body = refl
closed_in-forced texts left (head.Else arms) os o body = refl
closed_in-forced texts left (head.While test) os o body = refl
closed_in-forced texts left (head.For names comma iterable) os o body = refl
closed_in-forced texts left (head.Function name params) os o body = refl

pub closed-forced : (texts : Texts) (left : ℕ) (os : List Outer) (o : Outer) (body : Done) → forced_now (closed texts left os o body) ≡ enclose (o ∷ os) body.under
closed-forced texts left os o body = closed_in-forced texts left o.head os o body

pub ended-forced : (texts : Texts) (left : ℕ) (os : List Outer) (at : Spot) (from : ℕ) (tree : Stmt) (under : List ℕ) → forced_now (ended texts left os at from tree under) ≡ at_spot at os (from ∷ under)
ended-forced texts left os (spot.Own done) from tree under = refl
ended-forced texts left os (spot.Behind o) from tree under = closed-forced texts left os o (add nothing tree from under)

-- ---- a simple statement

-- what has been read of a statement that begins
abbrev Opens : List ℕ → Simple → Type 0
Opens p x = (inner : List ℕ) → Sooner p (in_simple x inner)

goes_on-opens : (p : List ℕ) (x : Simple) (u : Purpose) (o : Option reading.State) → Opens p x → Grows p (m.goes_on x u o)
goes_on-opens p x u None g = tt
goes_on-opens p x purpose.Deleting (Some r) g = allowed-grows (is_narrow r) p (h.InSimple x purpose.Deleting r) (g _)
goes_on-opens p x purpose.Showing (Some r) g = g _
goes_on-opens p x purpose.Giving (Some r) g = g _
goes_on-opens p x (purpose.Assigning to) (Some r) g = g _
goes_on-opens p x (purpose.Augmenting to op under) (Some r) g = g _

word-opens : (p : List ℕ) (at : ℕ) (x : Simple) (word : Keyword) → Opens p x → Grows p (begins_word at x word)
unfolding begins_word
word-opens p at x k.Pass g = g _
word-opens p at x k.Break g = allowed-grows (spot_around x.outers x.spot).in_loop p _ (g _)
word-opens p at x k.Continue g = allowed-grows (spot_around x.outers x.spot).in_loop p _ (g _)
word-opens p at x k.Return g = allowed-grows (spot_around x.outers x.spot).in_function p _ (g _)
word-opens p at x k.Global g = allowed-grows (spot_around x.outers x.spot).in_function p _ (g _)
word-opens p at x k.Del g = g _
word-opens p at x word g = goes_on-opens p x purpose.Showing (e.step m.begun (t.Keyword word) at) g

begins-opens : (p : List ℕ) (at : ℕ) (x : Simple) (token : Kind) → Opens p x → Grows p (m.begins at x token)
begins-opens p at x (t.Keyword word) g = word-opens p at x word g
begins-opens p at x token g = goes_on-opens p x purpose.Showing (e.step m.begun token at) g

-- its expression goes on
goes_on-grows : (x : Simple) (u : Purpose) (r : reading.State) (o : Option reading.State) → ((targets : Bool) → f.Grows targets (forced targets r) o) → Grows (in_simple x (in_purpose u r)) (m.goes_on x u o)
goes_on-grows x u r None g = tt
goes_on-grows x purpose.Deleting r (Some y) g = allowed-grows (is_narrow y) _ (h.InSimple x purpose.Deleting y) (simple-grows x (g true))
goes_on-grows x purpose.Showing r (Some y) g = simple-grows x (g true)
goes_on-grows x purpose.Giving r (Some y) g = simple-grows x (g false)
goes_on-grows x (purpose.Assigning to) r (Some y) g = simple-grows x (beside-grows to.under (g false))
goes_on-grows x (purpose.Augmenting to op under) r (Some y) g = simple-grows x (beside-grows under (g false))

reads-grow : (x : Simple) (u : Purpose) (r : reading.State) (token : Kind) (at : ℕ) → Grows (in_simple x (in_purpose u r)) (m.goes_on x u (e.step r token at))
reads-grow x u r token at = goes_on-grows x u r (e.step r token at) (λ targets. step-grows targets r token at)

-- it ends
abbrev Finishes : List ℕ → Option (Stmt × List ℕ) → Type 0
Finishes p None = Unit {0}
Finishes p (Some q) = Sooner p q.1

shown-finishes : (p : List ℕ) (o : Option Value) → EndsSooner p o → Finishes p (m.shown o)
shown-finishes p None e = tt
shown-finishes p (Some v) e = e

given-finishes : (p : List ℕ) (o : Option Value) → EndsAs p o → Finishes p (m.given o)
given-finishes p None e = tt
given-finishes p (Some v) e = equal e

assigned-finishes : (x : Sight) (p : List ℕ) (o : Option Value) → EndsAs p o → Finishes (beside x.under p) (m.assigned x o)
assigned-finishes x p None e = tt
assigned-finishes x p (Some v) e = beside-grows x.under (equal e)

augmented-finishes : (to : Target) (op : Op) (under p : List ℕ) (o : Option Value) → EndsAs p o → Finishes (beside under p) (m.augmented to op under o)
augmented-finishes to op under p None e = tt
augmented-finishes to op under p (Some v) e = beside-grows under (equal e)

-- one target, with its places
abbrev Places : List ℕ → Option (Target × List ℕ) → Type 0
Places p None = Unit {0}
Places p (Some q) = Sooner p q.1

one-places : (p : List ℕ) (divided : Bool) (targets : List Target) (under : List ℕ) → Sooner p under → Places p (m.one_of divided targets under)
one-places p false (to ∷ []) under e = e
one-places p true targets under e = tt
one-places p false [] under e = tt
one-places p false (to ∷ other ∷ targets) under e = tt

placed-places : (p : List ℕ) (o : Option Sight) → SeesSooner p o → Places p (m.placed o)
placed-places p None e = tt
placed-places p (Some x) e = one-places p x.divided x.targets x.under e

deleted-finishes : (p : List ℕ) (o : Option (Target × List ℕ)) → Places p o → Finishes p (m.deleted o)
deleted-finishes p None e = tt
deleted-finishes p (Some q) e = e

-- `return` with nothing after it
given-or : (r : reading.State) → Finishes (forced false r) (m.finished purpose.Giving r)
given-or (Wants []) = same []
given-or (Wants (x ∷ fs)) = given-finishes _ (ex.ended (Wants (x ∷ fs))) (ended-as (Wants (x ∷ fs)))
given-or (Has fs v) = given-finishes _ (ex.ended (Has fs v)) (ended-as (Has fs v))
given-or (Compared fs c) = given-finishes _ (ex.ended (Compared fs c)) (ended-as (Compared fs c))
given-or _ = tt

finished-finishes : (u : Purpose) (r : reading.State) → Finishes (in_purpose u r) (m.finished u r)
finished-finishes purpose.Showing r = shown-finishes (forced true r) (ex.ended r) (ended-sooner r)
finished-finishes purpose.Giving r = given-or r
finished-finishes purpose.Deleting r = deleted-finishes (forced true r) (m.placed (sight r)) (placed-places (forced true r) (sight r) (seen-sooner r))
finished-finishes (purpose.Assigning x) r = assigned-finishes x (forced false r) (ex.ended r) (ended-as r)
finished-finishes (purpose.Augmenting to op under) r = augmented-finishes to op under (forced false r) (ex.ended r) (ended-as r)

ends-grow : (texts : Texts) (left : ℕ) (x : Simple) (p : List ℕ) (o : Option (Stmt × List ℕ)) → Finishes p o → Grows (in_simple x p) (m.ends texts left x o)
ends-grow texts left x p None e = tt
ends-grow texts left x p (Some q) e = and_then (simple-grows x e) (equal (sym (ended-forced texts left x.outers x.spot x.from q.0 q.1)))

-- a sign after targets
assigns-grow : (x : Simple) (p : List ℕ) (o : Option Sight) → SeesSooner p o → Grows (in_simple x p) (m.assigns x o)
assigns-grow x p None e = tt
assigns-grow x p (Some to) e = simple-grows x (and_then e (no-more to.under))

augments-grow : (x : Simple) (op : Op) (p : List ℕ) (o : Option (Target × List ℕ)) → Places p o → Grows (in_simple x p) (m.augments x op o)
augments-grow x op p None e = tt
augments-grow x op p (Some q) e = simple-grows x (and_then e (no-more q.1))

signed-grows : (x : Simple) (g : Sign) (r : reading.State) → Grows (in_simple x (forced true r)) (m.signed x g r)
signed-grows x sign.Assign r = assigns-grow x (forced true r) (sight r) (seen-sooner r)
signed-grows x (sign.Augment op) r = augments-grow x op (forced true r) (m.placed (sight r)) (placed-places (forced true r) (sight r) (seen-sooner r))

sign-grows : (at : ℕ) (x : Simple) (u : Purpose) (r : reading.State) (symbol : sign_of.Symbol) (o : Option Sign) → Grows (in_simple x (in_purpose u r)) (m.sign_behind at x u r symbol o)
sign-grows at x purpose.Showing r symbol (Some g) = signed-grows x g r
sign-grows at x purpose.Giving r symbol (Some g) = tt
sign-grows at x purpose.Deleting r symbol (Some g) = tt
sign-grows at x (purpose.Assigning to) r symbol (Some g) = tt
sign-grows at x (purpose.Augmenting to op under) r symbol (Some g) = tt
sign-grows at x u r symbol None = reads-grow x u r (t.Symbol symbol) at

on_simple-grows : (texts : Texts) (at left : ℕ) (x : Simple) (u : Purpose) (r : reading.State) (token : Kind) → Grows (in_simple x (in_purpose u r)) (m.on_simple texts at left x u r token)
on_simple-grows texts at left x u r t.Newline = ends-grow texts left x (in_purpose u r) (m.finished u r) (finished-finishes u r)
on_simple-grows texts at left x u r (t.Symbol symbol) = sign-grows at x u r symbol (assignment symbol)
on_simple-grows texts at left x u r token = reads-grow x u r token at

on_word-grows : (texts : Texts) (left : ℕ) (x : Simple) (w : Word) (token : Kind) → Grows (in_simple x []) (m.on_word texts left x w token)
on_word-grows texts left x w t.Newline = equal (sym (ended-forced texts left x.outers x.spot x.from (m.word_tree w) []))
on_word-grows texts left x w _ = tt

on_global-grows : (x : Simple) (ns : List (List ℕ)) (names : Names) (token : Kind) → Grows (in_simple x []) (m.on_global x ns names token)
on_global-grows x ns names (t.Name n) = allowed-grows (m.is_new_in names n) _ (h.HasGlobal x (ns ++ n ∷ [])) (same _)
on_global-grows x ns names _ = tt

on_global_name-grows : (texts : Texts) (left : ℕ) (x : Simple) (ns : List (List ℕ)) (token : Kind) → Grows (in_simple x []) (m.on_global_name texts left x ns token)
on_global_name-grows texts left x ns (t.Symbol s.Comma) = same _
on_global_name-grows texts left x ns t.Newline = equal (sym (ended-forced texts left x.outers x.spot x.from _ []))
on_global_name-grows texts left x ns _ = tt

-- ---- heads

-- a `:` goes on with what has been read, or comes after it
pub colon-either : (r : reading.State) (at : ℕ) → colon_or_end r ≡ either_of (ex.ended r) (e.step r colon at)
colon-either (Wants fs) at = refl
colon-either (Has fs v) at = refl
colon-either (Compared fs c) at = refl
colon-either (AfterIs fs c) at = refl
colon-either (AfterIsNot fs c) at = refl
colon-either (AfterNot fs c) at = refl
colon-either (AfterDot fs v) at = refl
colon-either (AfterMethod fs v n) at = refl

test-goes_on : (x : Test) (r : reading.State) (o : Option reading.State) → f.Grows false (forced false r) o → Grows (in_begun x.begun (beside x.under (forced false r))) (m.test_goes_on x o)
test-goes_on x r None g = tt
test-goes_on x r (Some y) g = allowed-grows (m.fits x.lead y) _ (h.InTest x y) (begun-grows x.begun (beside-grows x.under g))

colon-grows : (x : Test) (r : reading.State) (v : Option Value) (o : Option reading.State) → EndsAs (forced false r) v → f.Grows false (forced false r) o
    → Grows (in_begun x.begun (beside x.under (forced false r))) (m.colon_behind x (either_of v o))
colon-grows x r (Some v) o e g = begun-grows x.begun (and_then (beside-grows x.under (equal e)) (no-more (beside x.under (places v))))
colon-grows x r None (Some y) e g = test-goes_on x r (Some y) g
colon-grows x r None None e g = tt

on_test-grows : (at : ℕ) (x : Test) (r : reading.State) (token : Kind) → Grows (in_begun x.begun (beside x.under (forced false r))) (m.on_test at x r token)
on_test-grows at x r (t.Symbol s.Colon) =
    subst (λ c. Grows (in_begun x.begun (beside x.under (forced false r))) (m.colon_behind x c)) (sym (colon-either r at)) (colon-grows x r (ex.ended r) (e.step r colon at) (ended-as r) (step-grows false r colon at))
on_test-grows at x r token = test-goes_on x r (e.step r token at) (step-grows false r token at)

on_variables-grows : (b : Begun) (ns : List (List ℕ)) (token : Kind) → Grows (in_begun b []) (m.on_variables b ns token)
on_variables-grows b ns (t.Name n) = same _
on_variables-grows b ns (t.Keyword k.In) = variables (m.is_empty ns)
  where
    variables : (c : Bool) → Grows (in_begun b []) (if c then None else Some (m.variables_end b ns true))
    variables true = tt
    variables false = same _
on_variables-grows b ns _ = tt

on_variable-grows : (b : Begun) (ns : List (List ℕ)) (token : Kind) → Grows (in_begun b []) (m.on_variable b ns token)
on_variable-grows b ns (t.Symbol s.Comma) = same _
on_variable-grows b ns (t.Keyword k.In) = same _
on_variable-grows b ns _ = tt

on_else-grows : (os : List Outer) (done : Done) (b : Branches) (token : Kind) → Grows (enclose os (beside done.under (b.from ∷ b.under))) (m.on_else os done b token)
on_else-grows os done b (t.Symbol s.Colon) = enclose-grows os (beside-grows done.under (cons b.from (no-more b.under)))
on_else-grows os done b _ = tt

on_def-grows : (b : Begun) (token : Kind) → Grows (in_begun b []) (m.on_def b token)
on_def-grows b (t.Name n) = same _
on_def-grows b _ = tt

on_def_name-grows : (b : Begun) (n : List ℕ) (token : Kind) → Grows (in_begun b []) (m.on_def_name b n token)
on_def_name-grows b n (t.Symbol s.OpenParenthesis) = same _
on_def_name-grows b n _ = tt

on_params-grows : (b : Begun) (n : List ℕ) (ps : List (List ℕ)) (names : Names) (token : Kind) → Grows (in_begun b []) (m.on_params b n ps names token)
on_params-grows b n ps names (t.Name i) = allowed-grows (m.is_new_in names i) _ (h.HasParams b n (ps ++ i ∷ [])) (same _)
on_params-grows b n ps names (t.Symbol s.CloseParenthesis) = same _
on_params-grows b n ps names _ = tt

on_param-grows : (b : Begun) (n : List ℕ) (ps : List (List ℕ)) (token : Kind) → Grows (in_begun b []) (m.on_param b n ps token)
on_param-grows b n ps (t.Symbol s.Comma) = same _
on_param-grows b n ps (t.Symbol s.CloseParenthesis) = same _
on_param-grows b n ps _ = tt

on_params_end-grows : (b : Begun) (n : List ℕ) (ps : List (List ℕ)) (token : Kind) → Grows (in_begun b []) (m.on_params_end b n ps token)
on_params_end-grows b n ps (t.Symbol s.Colon) = same _
on_params_end-grows b n ps _ = tt

on_colon-grows : (at : ℕ) (os : List Outer) (o : Outer) (token : Kind) → Grows (enclose (o ∷ os) []) (m.on_colon at os o token)
on_colon-grows at os o t.Newline = same _
on_colon-grows at os o token = begins-opens _ at (record { outers = os; spot = spot.Behind o; from = at }) token (λ inner. enclose-grows (o ∷ os) (none _))

on_newline-grows : (os : List Outer) (o : Outer) (token : Kind) → Grows (enclose (o ∷ os) []) (m.on_newline os o token)
on_newline-grows os o t.Indent = same _
on_newline-grows os o _ = tt

-- ---- lines

own-opens : (at : ℕ) (os : List Outer) (done : Done) → Opens (enclose os done.under) (m.own at os done)
own-opens at os done inner = enclose-grows os (more done.under _)

line-opens : (at : ℕ) (os : List Outer) (done : Done) (word : Keyword) → Grows (enclose os done.under) (begins_line at os done word)
unfolding begins_line
line-opens at os done k.If = enclose-grows os (more done.under _)
line-opens at os done k.While = enclose-grows os (more done.under _)
line-opens at os done k.For = enclose-grows os (more done.under _)
line-opens at [] done k.Def = more done.under _
line-opens at (o ∷ os) done k.Def = tt
line-opens at os done word = word-opens _ at (m.own at os done) word (own-opens at os done)

elif-grows : (os : List Outer) (done : Done) (l : Last) → Grows (enclose os (settled done l).under) (m.elif_at os done l)
elif-grows os done (last.Branches b) = enclose-grows os (beside-grows done.under (cons b.from (no-more b.under)))
elif-grows os done last.Nothing = tt
elif-grows os done last.Other = tt

else-grows : (os : List Outer) (done : Done) (l : Last) → Grows (enclose os (settled done l).under) (m.else_at os done l)
else-grows os done (last.Branches b) = same _
else-grows os done last.Nothing = tt
else-grows os done last.Other = tt

line_word-grows : (at : ℕ) (os : List Outer) (done : Done) (l : Last) (word : Keyword) → Grows (enclose os (settled done l).under) (on_line_word at os done l word)
unfolding on_line_word
line_word-grows at os done l k.Elif = elif-grows os done l
line_word-grows at os done l k.Else = else-grows os done l
line_word-grows at os done l word = line-opens at os (settled done l) word

dedent-grows : (texts : Texts) (left : ℕ) (os : List Outer) (done : Done) (l : Last) → Grows (enclose os (settled done l).under) (m.dedent_at texts left os done l)
dedent-grows texts left [] done l = tt
dedent-grows texts left (o ∷ os) done last.Nothing = tt
dedent-grows texts left (o ∷ os) done last.Other = equal (sym (closed-forced texts left os o (settled done last.Other)))
dedent-grows texts left (o ∷ os) done (last.Branches b) = equal (sym (closed-forced texts left os o (settled done (last.Branches b))))

end-grows : (os : List Outer) (done : Done) → Grows (enclose os done.under) (m.end_at os done)
end-grows [] done = same _
end-grows (o ∷ os) done = tt

on_line-grows : (texts : Texts) (at left : ℕ) (os : List Outer) (done : Done) (l : Last) (token : Kind) → Grows (enclose os (settled done l).under) (m.on_line texts at left os done l token)
on_line-grows texts at left os done l (t.Keyword word) = line_word-grows at os done l word
on_line-grows texts at left os done l t.Dedent = dedent-grows texts left os done l
on_line-grows texts at left os done l t.End = end-grows os (settled done l)
on_line-grows texts at left os done l token = goes_on-opens _ (m.own at os (settled done l)) purpose.Showing (e.step m.begun token at) (own-opens at os (settled done l))

any_line-grows : (b : Bool) (p : List ℕ) (o : Option State) → Grows p o → Grows p (if b then o else None)
any_line-grows true p o g = g
any_line-grows false p o g = tt

-- ---- one more token

function-grows : (texts : Texts) (left : ℕ) (x : State) (names : Names) (token : Kind) → Grows (forced_now x) (m.function_moves texts left x names token)
function-grows texts left (h.InGlobal x ns) names token = on_global-grows x ns names token
function-grows texts left (h.HasGlobal x ns) names token = on_global_name-grows texts left x ns token
function-grows texts left (h.AfterDef b) names token = on_def-grows b token
function-grows texts left (h.AfterDefName b n) names token = on_def_name-grows b n token
function-grows texts left (h.InParams b n ps) names token = on_params-grows b n ps names token
function-grows texts left (h.HasParams b n ps) names token = on_param-grows b n ps token
function-grows texts left (h.AfterParams b n ps) names token = on_params_end-grows b n ps token
function-grows texts left _ names token = tt

head-grows : (texts : Texts) (at left : ℕ) (x : State) (names : Names) (token : Kind) → Grows (forced_now x) (m.head_moves texts at left x names token)
head-grows texts at left (h.InTest x r) names token = on_test-grows at x r token
head-grows texts at left (h.InVariables b ns) names token = on_variables-grows b ns token
head-grows texts at left (h.HasVariables b ns) names token = on_variable-grows b ns token
head-grows texts at left (h.AfterElse os done b) names token = on_else-grows os done b token
head-grows texts at left (h.AfterColon os o) names token = on_colon-grows at os o token
head-grows texts at left (h.AfterNewline os o) names token = on_newline-grows os o token
head-grows texts at left x names token = function-grows texts left x names token

pub moves-grow : (alone : Bool) (texts : Texts) (at left : ℕ) (x : State) (names : Names) (token : Kind) → Grows (forced_now x) (moves alone texts at left x names token)
moves-grow alone texts at left (h.Line os done l) names token = any_line-grows (m.may_come alone os l token) _ (m.on_line texts at left os done l token) (on_line-grows texts at left os done l token)
moves-grow alone texts at left (h.InSimple x u r) names token = on_simple-grows texts at left x u r token
moves-grow alone texts at left (h.AfterWord x w) names token = on_word-grows texts left x w token
moves-grow alone texts at left x names token = head-grows texts at left x names token

-- ---- all tokens

abbrev pub RunGrows : List ℕ → Option Reader → Type 0
RunGrows p None = Unit {0}
RunGrows p (Some r) = Sooner p (forced_now r.state)

run-later : (p q : List ℕ) (o : Option Reader) → Sooner p q → RunGrows q o → RunGrows p o
run-later p q None e g = tt
run-later p q (Some r) e g = and_then e g

next-grows : (texts : Texts) (alone : Bool) (at : ℕ) (names : Names) (ts : List Kind) (p : List ℕ) (o : Option State) → Grows p o → ((x : State) → RunGrows (forced_now x) (run alone texts at (record { state = x; names = names }) ts))
    → RunGrows p (elim (with_names names o) [ None ↦ None | Some next ↦ run alone texts at next ts ])
next-grows texts alone at names ts p None g f = tt
next-grows texts alone at names ts p (Some x) g f = run-later _ _ (run alone texts at (record { state = x; names = names }) ts) g (f x)

pub run-grows : (alone : Bool) (texts : Texts) (at : ℕ) (r : Reader) (ts : List Kind) → RunGrows (forced_now r.state) (run alone texts at r ts)
run-grows alone texts at r [] = same _
run-grows alone texts at r (token ∷ ts) =
    next-grows texts alone (at - 1) (m.renamed r.state token r.names) ts (forced_now r.state) (moves alone texts at (at - 1) r.state r.names token) (moves-grow alone texts at (at - 1) r.state r.names token)
    (λ x. run-grows alone texts (at - 1) (record { state = x; names = m.renamed r.state token r.names }) ts)
