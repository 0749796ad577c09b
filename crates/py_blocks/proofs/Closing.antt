-- By the tokens that end a cell no more is forced.
use Rattle.std.proofs.Common.{◌≡◌, ℕ, zero, suc, max, ◌≤◌, Bool, true, false, if◌then◌else◌, List, [], ◌∷◌, ◌++◌, Option, Some, None, refl, ap, ◌∙◌, sym, subst, arith}
use Rattle.std.proofs.lemmas.Bool.{false≢true}
use Rattle.py_token.specs.declared.kinds.Kind.{Kind}
use Rattle.py_token.specs.declared.kinds.Kind.TheVariants as t
use Rattle.py_tree.specs.declared.statements.Stmt.{Stmt}
use Rattle.py_grammar.specs.Words.{assign_sign, open_bracket, colon}
use Rattle.py_frames.specs.declared.frames.State as reading
use Rattle.py_frames.specs.declared.frames.State.TheVariants.{Has}
use Rattle.py_frames.specs.declared.frames.Frame.{Frame}
use Rattle.py_frames.specs.declared.frames.Value.{Value}
use Rattle.py_frames.specs.declared.frames.Hole.{Hole}
use Rattle.py_frames.specs.declared.frames.Hole.TheVariants as hole_of
use Rattle.py_frames.specs.declared.seeing.Sight.{Sight}
use Rattle.py_frames.specs.Values.{beside, places, closes, is_dict}
use Rattle.py_frames.specs.Steps as e
use Rattle.py_frames.specs.Ends as ex
use Rattle.py_frames.specs.Ends.{either_of, colon_or_end, is_narrow, ended_in, ended_after}
use Rattle.py_frames.specs.Targets.{sight}
use Rattle.py_frames.specs.Forced as f
use Rattle.py_frames.specs.Forced.{forced, reach, AddsAt, EndsAs, of_dict, Ending, a_name, no_args, parenthesis, bracket, brace, otherwise, key, related, no_value, not_no_value, within, a_method, called}
use Rattle.py_frames.proofs.Forced.{reach-beside, beside-none}
use Rattle.py_frames.proofs.Ended.{same, and_then, cons, beside-adds, ending-adds}
use Rattle.py_frames.proofs.AtEnd.{ended-as}
use Rattle.py_blocks.specs.declared.state.Begun.{Begun}
use Rattle.py_blocks.specs.declared.state.Done.{Done}
use Rattle.py_blocks.specs.declared.state.Last.{Last}
use Rattle.py_blocks.specs.declared.state.Last.TheVariants as last
use Rattle.py_blocks.specs.declared.state.Outer.{Outer}
use Rattle.py_blocks.specs.declared.state.Purpose.{Purpose}
use Rattle.py_blocks.specs.declared.state.Purpose.TheVariants as purpose
use Rattle.py_blocks.specs.declared.state.Simple.{Simple}
use Rattle.py_blocks.specs.declared.state.Spot.{Spot}
use Rattle.py_blocks.specs.declared.state.Spot.TheVariants as spot
use Rattle.py_blocks.specs.declared.state.State.{State}
use Rattle.py_blocks.specs.declared.state.State.TheVariants as h
use Rattle.py_blocks.specs.declared.state.Test.{Test}
use Rattle.py_blocks.specs.Blocks.{Texts, settled}
use Rattle.py_blocks.specs.Steps as m
use Rattle.py_blocks.specs.Steps.{Names, assignment, moves}
use Rattle.py_blocks.specs.Forced.{enclose, at_spot, in_simple, in_purpose, in_begun, forced_now}
use Rattle.py_blocks.specs.Completes.{Adds, ReadingAdds, Finishes, Sees, Closing, statement, dedent, finish, goes, item, ends, assigned, after_word, global_name, after_global, test, head, variable, variables, after_else, after_def, after_name, no_param, params, after_params, block, indent}
use Rattle.py_blocks.proofs.Sooner.{closed-forced, ended-forced, colon-either}

-- ---- the order

pub equal : {at : ℕ} {p q : List ℕ} → p ≡ q → AddsAt at p q
equal {at} {p} {q} e = subst (AddsAt at p) e (same p)

two-each : (at d : ℕ) → reach (at ∷ at ∷ []) d ≤ max at (reach [] d)
two-each at zero = omega arith
two-each at (suc zero) = omega arith
two-each at (suc (suc d)) = omega arith

-- a part, and one in it
two : (at : ℕ) → AddsAt at [] (at ∷ at ∷ [])
two at = record { each = two-each at }

two-more : (at : ℕ) (p : List ℕ) → AddsAt at p (beside p (at ∷ at ∷ []))
two-more at p = record { each = λ d. omega (arith, reach-beside p (at ∷ at ∷ []) d, (two at).each d) }

pub no-more : {at : ℕ} (p : List ℕ) → AddsAt at p (beside p [])
no-more p = equal (sym (beside-none p))

enclose-adds : {at : ℕ} (os : List Outer) {p q : List ℕ} → AddsAt at p q → AddsAt at (enclose os p) (enclose os q)
enclose-adds [] e = e
enclose-adds (o ∷ os) e = enclose-adds os (beside-adds o.before.under (cons o.from (beside-adds o.under e)))

spot-adds : {at : ℕ} (s : Spot) (os : List Outer) {p q : List ℕ} → AddsAt at p q → AddsAt at (at_spot s os p) (at_spot s os q)
spot-adds (spot.Own done) os e = enclose-adds os (beside-adds done.under e)
spot-adds (spot.Behind o) os e = enclose-adds (o ∷ os) e

simple-adds : {at : ℕ} (x : Simple) {p q : List ℕ} → AddsAt at p q → AddsAt at (in_simple x p) (in_simple x q)
simple-adds x e = spot-adds x.spot x.outers (cons x.from e)

begun-adds : {at : ℕ} (b : Begun) {p q : List ℕ} → AddsAt at p q → AddsAt at (in_begun b p) (in_begun b q)
begun-adds b e = enclose-adds b.outers (beside-adds b.before.under (cons b.from e))

allowed-adds : (at : ℕ) (b : Bool) (p : List ℕ) (x : State) → AddsAt at p (forced_now x) → Adds at p (m.if_allowed b x)
allowed-adds at true p x e = e
allowed-adds at false p x e = tt

-- ---- a simple statement

goes_on-adds : (at : ℕ) (x : Simple) (u : Purpose) (p : List ℕ) (o : Option reading.State) → ReadingAdds at u p o → Adds at (in_simple x p) (m.goes_on x u o)
goes_on-adds at x u p None e = tt
goes_on-adds at x purpose.Deleting p (Some r) e = allowed-adds at (is_narrow r) _ (h.InSimple x purpose.Deleting r) (simple-adds x e)
goes_on-adds at x purpose.Showing p (Some r) e = simple-adds x e
goes_on-adds at x purpose.Giving p (Some r) e = simple-adds x e
goes_on-adds at x (purpose.Assigning to) p (Some r) e = simple-adds x e
goes_on-adds at x (purpose.Augmenting to op under) p (Some r) e = simple-adds x e

reading-adds : (at : ℕ) (u : Purpose) (r : reading.State) (o : Option reading.State) → ((targets : Bool) → f.Adds targets at (forced targets r) o) → ReadingAdds at u (in_purpose u r) o
reading-adds at u r None e = tt
reading-adds at purpose.Showing r (Some s) e = e true
reading-adds at purpose.Giving r (Some s) e = e false
reading-adds at purpose.Deleting r (Some s) e = e true
reading-adds at (purpose.Assigning to) r (Some s) e = beside-adds to.under (e false)
reading-adds at (purpose.Augmenting to op under) r (Some s) e = beside-adds under (e false)

-- none of those tokens is the sign of an assignment or the end of a line
ending-goes_on : (texts : Texts) (at left : ℕ) (x : Simple) (u : Purpose) (r : reading.State) (token : Kind) → Ending r token → m.on_simple texts at left x u r token ≡ m.goes_on x u (e.step r token at)
unfolding assignment
ending-goes_on texts at left x u r token (a_name fs n) = refl
ending-goes_on texts at left x u r token (no_args fs) = refl
ending-goes_on texts at left x u r token (parenthesis fs v) = refl
ending-goes_on texts at left x u r token (bracket fs v) = refl
ending-goes_on texts at left x u r token (brace fs v) = refl
ending-goes_on texts at left x u r token (otherwise fs v) = refl
ending-goes_on texts at left x u r token (key fs v d) = refl
ending-goes_on texts at left x u r token (related fs c) = refl
ending-goes_on texts at left x u r token (no_value fs c) = refl
ending-goes_on texts at left x u r token (not_no_value fs c) = refl
ending-goes_on texts at left x u r token (within fs c) = refl
ending-goes_on texts at left x u r token (a_method fs v n) = refl
ending-goes_on texts at left x u r token (called fs v n) = refl

item-goes_on : (texts : Texts) (at left : ℕ) (x : Simple) (u : Purpose) (r : reading.State) → m.on_simple texts at left x u r open_bracket ≡ m.goes_on x u (e.step r open_bracket at)
unfolding assignment
item-goes_on texts at left x u r = refl

assign-signed : (texts : Texts) (at left : ℕ) (x : Simple) (r : reading.State) → m.on_simple texts at left x purpose.Showing r assign_sign ≡ m.assigns x (sight r)
unfolding assignment
assign-signed texts at left x r = refl

ends-add : (texts : Texts) (at left : ℕ) (x : Simple) (p : List ℕ) (o : Option (Stmt × List ℕ)) → Finishes at p o → Adds at (in_simple x p) (m.ends texts left x o)
ends-add texts at left x p None e = tt
ends-add texts at left x p (Some q) e = and_then (simple-adds x e) (equal (sym (ended-forced texts left x.outers x.spot x.from q.0 q.1)))

assigns-add : (at : ℕ) (x : Simple) (p : List ℕ) (o : Option Sight) → Sees at p o → Adds at (in_simple x p) (m.assigns x o)
assigns-add at x p None e = tt
assigns-add at x p (Some to) e = simple-adds x (and_then e (no-more to.under))

-- ---- heads

test-adds : (at : ℕ) (x : Test) (p : List ℕ) (o : Option reading.State) → f.Adds false at p o → Adds at (in_begun x.begun (beside x.under p)) (m.test_goes_on x o)
test-adds at x p None e = tt
test-adds at x p (Some r) e = allowed-adds at (m.fits x.lead r) _ (h.InTest x r) (begun-adds x.begun (beside-adds x.under e))

dict-none : (fs : List Frame) (v : Value) → of_dict fs ≡ true → ended_after fs v ≡ None
dict-none [] v e = absurd (false≢true e)
dict-none (x ∷ fs) v e = in_dict x.hole e
  where
    in_dict : (hole : Hole) → is_dict hole ≡ true → ended_in hole x fs v ≡ None
    in_dict (hole_of.Dict ps) e = refl
    in_dict _ e = absurd (false≢true e)

key-goes_on : (at : ℕ) (x : Test) (fs : List Frame) (v : Value) → of_dict (closes 2 fs v).0 ≡ true → m.on_test at x (Has fs v) colon ≡ m.test_goes_on x (e.step (Has fs v) colon at)
key-goes_on at x fs v d =
    ap (m.colon_behind x) (colon-either (Has fs v) at ∙ ap (λ o. either_of o (e.step (Has fs v) colon at)) (dict-none (closes 2 fs v).0 (closes 2 fs v).1 d)) ∙ goes (e.step (Has fs v) colon at)
  where
    goes : (o : Option reading.State) → m.colon_behind x (either_of None o) ≡ m.test_goes_on x o
    goes None = refl
    goes (Some r) = refl

ending-tests : (at : ℕ) (x : Test) (r : reading.State) (token : Kind) → Ending r token → m.on_test at x r token ≡ m.test_goes_on x (e.step r token at)
ending-tests at x r token (a_name fs n) = refl
ending-tests at x r token (no_args fs) = refl
ending-tests at x r token (parenthesis fs v) = refl
ending-tests at x r token (bracket fs v) = refl
ending-tests at x r token (brace fs v) = refl
ending-tests at x r token (otherwise fs v) = refl
ending-tests at x r token (key fs v d) = key-goes_on at x fs v d
ending-tests at x r token (related fs c) = refl
ending-tests at x r token (no_value fs c) = refl
ending-tests at x r token (not_no_value fs c) = refl
ending-tests at x r token (within fs c) = refl
ending-tests at x r token (a_method fs v n) = refl
ending-tests at x r token (called fs v n) = refl

head-adds : (at : ℕ) (x : Test) (p : List ℕ) (o : Option Value) (s : Option reading.State) (v : Value) → o ≡ Some v → EndsAs p o → Adds at (in_begun x.begun (beside x.under p)) (m.colon_behind x (either_of o s))
head-adds at x p (Some w) s v e y = begun-adds x.begun (and_then (beside-adds x.under (equal y)) (no-more (beside x.under (places w))))
head-adds at x p None s v e y = absurd (none-some e)
  where
    none-some : {A : Type 0} {a : A} → ◌≡◌ {A = Option A} None (Some a) → ⊥
    none-some {A} {a} e = cc

dedent-adds : (texts : Texts) (at left : ℕ) (o : Outer) (os : List Outer) (done : Done) (l : Last) → Adds at (enclose (o ∷ os) (settled done l).under) (m.dedent_at texts left (o ∷ os) done l)
dedent-adds texts at left o os done last.Nothing = tt
dedent-adds texts at left o os done last.Other = equal (sym (closed-forced texts left os o (settled done last.Other)))
dedent-adds texts at left o os done (last.Branches b) = equal (sym (closed-forced texts left os o (settled done (last.Branches b))))

-- ---- one more token

pub closing-adds : (texts : Texts) (at left : ℕ) (x : State) (names : Names) (token : Kind) → Closing x token → Adds at (forced_now x) (moves false texts at left x names token)
closing-adds texts at left x names token (statement os done l n) = enclose-adds os (two-more at (settled done l).under)
closing-adds texts at left x names token (dedent o os done l) = dedent-adds texts at left o os done l
closing-adds texts at left x names token (finish done l) = same _
closing-adds texts at left x names token (goes y u r z d) = subst (Adds at (in_simple y (in_purpose u r))) (sym (ending-goes_on texts at left y u r z d)) (goes_on-adds at y u _ (e.step r z at) (reading-adds at u r (e.step r z at) (λ targets. ending-adds targets r z at d)))
closing-adds texts at left x names token (item y u r d) = subst (Adds at (in_simple y (in_purpose u r))) (sym (item-goes_on texts at left y u r)) (goes_on-adds at y u _ (e.step r open_bracket at) (d at))
closing-adds texts at left x names token (ends y u r d) = ends-add texts at left y (in_purpose u r) (m.finished u r) (d at)
closing-adds texts at left x names token (assigned y r d) = subst (Adds at (in_simple y (forced true r))) (sym (assign-signed texts at left y r)) (assigns-add at y (forced true r) (sight r) (d at))
closing-adds texts at left x names token (after_word y w) = equal (sym (ended-forced texts left y.outers y.spot y.from (m.word_tree w) []))
closing-adds texts at left x names token (global_name y ns n) = allowed-adds at (m.is_new_in names n) _ (h.HasGlobal y (ns ++ n ∷ [])) (same _)
closing-adds texts at left x names token (after_global y ns) = equal (sym (ended-forced texts left y.outers y.spot y.from _ []))
closing-adds texts at left x names token (test y r z d) = subst (Adds at (in_begun y.begun (beside y.under (forced false r)))) (sym (ending-tests at y r z d)) (test-adds at y (forced false r) (e.step r z at) (ending-adds false r z at d))
closing-adds texts at left x names token (head y r v d) =
    subst (λ c. Adds at (in_begun y.begun (beside y.under (forced false r))) (m.colon_behind y c)) (sym (colon-either r at)) (head-adds at y (forced false r) (ex.ended r) (e.step r colon at) v d (ended-as r))
closing-adds texts at left x names token (variable b ns n) = same _
closing-adds texts at left x names token (variables b ns) = same _
closing-adds texts at left x names token (after_else os done b) = enclose-adds os (beside-adds done.under (cons b.from (no-more b.under)))
closing-adds texts at left x names token (after_def b n) = same _
closing-adds texts at left x names token (after_name b n) = same _
closing-adds texts at left x names token (no_param b n ps) = same _
closing-adds texts at left x names token (params b n ps) = same _
closing-adds texts at left x names token (after_params b n ps) = same _
closing-adds texts at left x names token (block os o n) = enclose-adds (o ∷ os) (two at)
closing-adds texts at left x names token (indent os o) = same _
