-- What has been read ends with what was forced of it.
use Rattle.std.proofs.Common.{◌≡◌, ℕ, Bool, true, false, ◌&&◌, if◌then◌else◌, nat_le, drop, List, [], ◌∷◌, ◌++◌, Option, Some, None, refl, ap, ◌∙◌, sym, subst, arith}
use Rattle.py_tree.specs.declared.expressions.Expr.{Expr}
use Rattle.py_frames.specs.declared.frames.Value.{Value}
use Rattle.py_frames.specs.declared.frames.Frame.{Frame}
use Rattle.py_frames.specs.declared.frames.Hole.{Hole}
use Rattle.py_frames.specs.declared.frames.Hole.TheVariants as h
use Rattle.py_frames.specs.declared.frames.State.{State}
use Rattle.py_frames.specs.declared.frames.State.TheVariants.{Wants, Has, Compared}
use Rattle.py_frames.specs.declared.seeing.Sight.{Sight}
use Rattle.py_frames.specs.Values.{places, beside, level, close, closes, finished}
use Rattle.py_frames.specs.Steps.{with_both}
use Rattle.py_frames.specs.Ends.{ended, ended_in, ended_after, ended_at_in, ended_at}
use Rattle.py_frames.specs.Targets.{sight, sight_if, sight_in, sight_after, sight_at_in, sight_at}
use Rattle.py_frames.specs.Forced.{Sooner, node, bare, is_nil, loose, forced_in, forced, EndsAs, EndsSooner, SeesSooner}
use Rattle.py_frames.specs.Forced as g
use Rattle.py_frames.proofs.Forced.{same, and_then, shift, cons, beside-grows, beside-none, drop-sooner, beside-left, none-more, fit-none, frames-grow, starts, closes-grow, under-sooner, loose-sooner, no-true, less-true, operator-plain, Outer}

-- ---- where no targets may come

tight-around : (hole : Hole) (x : Frame) (last o o' : Bool) (l l' t : List ℕ) (outer : Outer) → g.around false hole x last o l t outer ≡ g.around false hole x last o' l' t outer
tight-around (h.Tuple xs may) x true o o' l l' t outer = refl
tight-around (h.Tuple xs may) x false o o' l l' t outer = refl
tight-around (h.Index p) x last o o' l l' t outer = refl
tight-around hole x last o o' l l' t outer = refl

-- it doesn't count whether it is an operand alone
tight-any : (fs : List Frame) (o o' : Bool) (l l' t : List ℕ) → forced_in false fs o l t ≡ forced_in false fs o' l' t
tight-any [] o o' l l' t = refl
tight-any (x ∷ fs) o o' l l' t = tight-around x.hole x (is_nil fs) o o' l l' t (forced_in false fs)

close-tight-in : (hole : Hole) (x : Frame) (fs : List Frame) (o : Bool) (l t : List ℕ) → g.around false hole x (is_nil fs) o l t (forced_in false fs) ≡ forced_in false fs o l (node x t)
close-tight-in (h.Tuple xs may) x [] o l t = refl
close-tight-in (h.Tuple xs may) x (y ∷ fs) o l t = tight-any (y ∷ fs) false o _ l _
close-tight-in (h.Index p) x fs o l t = tight-any fs true o _ l _
close-tight-in hole x fs o l t = tight-any fs (bare hole) o _ l _

closes-tight-if : (b : Bool) (x : Frame) (fs : List Frame) (o : Bool) (l : List ℕ) (v : Value) (r : List Frame × Value) → forced_in false fs o l (places (close x v)) ≡ forced_in false r.0 o l (places r.1)
    → forced_in false (x ∷ fs) o l (places v) ≡ forced_in false (if b then r else (x ∷ fs, v)).0 o l (places (if b then r else (x ∷ fs, v)).1)
closes-tight-if true x fs o l v r e = close-tight-in x.hole x fs o l (places v) ∙ e
closes-tight-if false x fs o l v r e = refl

closes-tight : (k : ℕ) (fs : List Frame) (o : Bool) (l : List ℕ) (v : Value) → forced_in false fs o l (places v) ≡ forced_in false (closes k fs v).0 o l (places (closes k fs v).1)
closes-tight k [] o l v = refl
closes-tight k (x ∷ fs) o l v = closes-tight-if (nat_le k (level x.hole)) x fs o l v (closes k fs (close x v)) (closes-tight k fs o l (close x v))

after-as-in : (hole : Hole) (x : Frame) (fs : List Frame) (v : Value) (o : Bool) (l : List ℕ) → EndsAs (g.around false hole x (is_nil fs) o l (places v) (forced_in false fs)) (ended_in hole x fs v)
after-as-in (h.Tuple xs may) x [] v o l = refl
after-as-in (h.Tuple xs may) x (y ∷ fs) v o l = tt
after-as-in _ x fs v o l = tt

after-as : (fs : List Frame) (v : Value) (o : Bool) (l : List ℕ) → EndsAs (forced_in false fs o l (places v)) (ended_after fs v)
after-as [] v o l = refl
after-as (x ∷ fs) v o l = after-as-in x.hole x fs v o l

at-as-in : (hole : Hole) (x : Frame) (fs : List Frame) → EndsAs (g.around false hole x (is_nil fs) true [] [] (forced_in false fs)) (ended_at_in hole x fs)
at-as-in (h.Tuple xs may) x [] = ap (◌∷◌ x.from) (beside-none x.under)
at-as-in (h.Tuple xs may) x (y ∷ fs) = tt
at-as-in _ x fs = tt

at-as : (fs : List Frame) → EndsAs (forced_in false fs true [] []) (ended_at fs)
at-as [] = tt
at-as (x ∷ fs) = at-as-in x.hole x fs

-- all of it was forced, and no more
pub ended-as : (s : State) → EndsAs (forced false s) (ended s)
ended-as (Wants fs) = at-as fs
ended-as (Has fs v) = subst (λ p. EndsAs p (with_both (closes 2 fs v) ended_after)) (sym (closes-tight 2 fs true (loose v) v)) (after-as (closes 2 fs v).0 (closes 2 fs v).1 true (loose v))
ended-as (Compared fs c) = subst (λ p. EndsAs p (with_both (closes 2 fs (finished c)) ended_after)) (sym (closes-tight 2 fs false (c.from ∷ c.under) (finished c))) (after-as (closes 2 fs (finished c)).0 (closes 2 fs (finished c)).1 false (c.from ∷ c.under))
ended-as _ = tt

-- ---- where targets may come

ends-later : (p q : List ℕ) (o : Option Value) → Sooner p q → EndsSooner q o → EndsSooner p o
ends-later p q None e y = tt
ends-later p q (Some v) e y = and_then e y

sees-later : (p q : List ℕ) (o : Option Sight) → Sooner p q → SeesSooner q o → SeesSooner p o
sees-later p q None e y = tt
sees-later p q (Some x) e y = and_then e y

-- the places of a tuple, seen as targets or not
divided : (may b : Bool) (x : Frame) (l t : List ℕ) → Sooner l t → Sooner (if may && b then beside (drop 1 x.under) l else node x t) (node x t)
divided false b x l t e = same _
divided true false x l t e = same _
divided true true x l t e = and_then (beside-grows (drop 1 x.under) e) (and_then (beside-left _ (drop-sooner x.under)) (shift x.from _))

-- as in the order of the machine
abbrev Ended : List Frame → Value → List ℕ
Ended fs v = forced_in true fs v.target v.under (places v)

after-ends-in : (hole : Hole) (x : Frame) (fs : List Frame) (v : Value) → EndsSooner (g.around true hole x (is_nil fs) v.target v.under (places v) (forced_in true fs)) (ended_in hole x fs v)
after-ends-in (h.Tuple xs may) x [] v = divided may v.target x v.under (places v) (under-sooner true v)
after-ends-in (h.Tuple xs may) x (y ∷ fs) v = tt
after-ends-in _ x fs v = tt

after-ends : (fs : List Frame) (v : Value) → EndsSooner (Ended fs v) (ended_after fs v)
after-ends [] v = loose-sooner true v.target v
after-ends (x ∷ fs) v = after-ends-in x.hole x fs v

at-ends-in : (hole : Hole) (x : Frame) (fs : List Frame) → EndsSooner (g.around true hole x (is_nil fs) true [] [] (forced_in true fs)) (ended_at_in hole x fs)
at-ends-in (h.Tuple xs may) x [] = and_then (divided may true x [] [] (same [])) (cons x.from (none-more true x.under))
at-ends-in (h.Tuple xs may) x (y ∷ fs) = tt
at-ends-in _ x fs = tt

at-ends : (fs : List Frame) → EndsSooner (forced_in true fs true [] []) (ended_at fs)
at-ends [] = tt
at-ends (x ∷ fs) = at-ends-in x.hole x fs

sees-one : (b : Bool) (v : Value) → SeesSooner (if b then v.under else places v) (sight_if false b (v.tree ∷ []) v.under)
sees-one true v = same _
sees-one false v = tt

dropped : (u : List ℕ) (v : Value) → Sooner (beside (drop 1 u) v.under) (drop 1 (beside u (places v)))
dropped [] v = same _
dropped (y ∷ u) v = same _

sees-all : (may b : Bool) (x : Frame) (xs : List Expr) (v : Value) → SeesSooner (if may && b then beside (drop 1 x.under) v.under else node x (places v)) (sight_if true (may && b) (xs ++ v.tree ∷ []) (drop 1 (beside x.under (places v))))
sees-all false b x xs v = tt
sees-all true false x xs v = tt
sees-all true true x xs v = dropped x.under v

after-sees-in : (hole : Hole) (x : Frame) (fs : List Frame) (v : Value) → SeesSooner (g.around true hole x (is_nil fs) v.target v.under (places v) (forced_in true fs)) (sight_in hole x fs v)
after-sees-in (h.Tuple xs may) x [] v = sees-all may v.target x xs v
after-sees-in (h.Tuple xs may) x (y ∷ fs) v = tt
after-sees-in _ x fs v = tt

after-sees : (fs : List Frame) (v : Value) → SeesSooner (Ended fs v) (sight_after fs v)
after-sees [] v = sees-one v.target v
after-sees (x ∷ fs) v = after-sees-in x.hole x fs v

sees-comma : (may : Bool) (x : Frame) (xs : List Expr) → SeesSooner (if may && true then beside (drop 1 x.under) [] else node x []) (sight_if true may xs (drop 1 x.under))
sees-comma false x xs = tt
sees-comma true x xs = none-more true (drop 1 x.under)

at-sees-in : (hole : Hole) (x : Frame) (fs : List Frame) → SeesSooner (g.around true hole x (is_nil fs) true [] [] (forced_in true fs)) (sight_at_in hole x fs)
at-sees-in (h.Tuple xs may) x [] = sees-comma may x xs
at-sees-in (h.Tuple xs may) x (y ∷ fs) = tt
at-sees-in _ x fs = tt

at-sees : (fs : List Frame) → SeesSooner (forced_in true fs true [] []) (sight_at fs)
at-sees [] = tt
at-sees (x ∷ fs) = at-sees-in x.hole x fs

-- what a comparison or an operand closes
value-closes : (fs : List Frame) (v : Value) → Sooner (forced true (Has fs v)) (Ended (closes 2 fs v).0 (closes 2 fs v).1)
value-closes fs v = and_then (starts true fs v.target v) (closes-grow true 2 fs v (omega arith))

pub ended-sooner : (s : State) → EndsSooner (forced true s) (ended s)
ended-sooner (Wants fs) = at-ends fs
ended-sooner (Has fs v) = ends-later _ _ (with_both (closes 2 fs v) ended_after) (value-closes fs v) (after-ends (closes 2 fs v).0 (closes 2 fs v).1)
ended-sooner (Compared fs c) =
    ends-later _ _ (with_both (closes 2 fs (finished c)) ended_after) (and_then (frames-grow true fs false false _ _ _ _ (fit-none (same _) (same _))) (closes-grow true 2 fs (finished c) (omega arith))) (after-ends (closes 2 fs (finished c)).0 (closes 2 fs (finished c)).1)
ended-sooner _ = tt

pub seen-sooner : (s : State) → SeesSooner (forced true s) (sight s)
seen-sooner (Wants fs) = at-sees fs
seen-sooner (Has fs v) = sees-later _ _ (with_both (closes 2 fs v) sight_after) (value-closes fs v) (after-sees (closes 2 fs v).0 (closes 2 fs v).1)
seen-sooner (Compared fs c) =
    sees-later _ _ (with_both (closes 2 fs (finished c)) sight_after) (and_then (frames-grow true fs false false _ _ _ _ (fit-none (same _) (same _))) (closes-grow true 2 fs (finished c) (omega arith))) (after-sees (closes 2 fs (finished c)).0 (closes 2 fs (finished c)).1)
seen-sooner _ = tt

-- ---- where targets may come, and what has been read is no operand alone

closed-as-in : (hole : Hole) (x : Frame) (fs : List Frame) (v : Value) (l : List ℕ) → EndsAs (g.around true hole x (is_nil fs) false l (places v) (forced_in true fs)) (ended_in hole x fs v)
closed-as-in (h.Tuple xs false) x [] v l = refl
closed-as-in (h.Tuple xs true) x [] v l = refl
closed-as-in (h.Tuple xs may) x (y ∷ fs) v l = tt
closed-as-in _ x fs v l = tt

closed-as-if : (b : Bool) (x : Frame) (fs : List Frame) (v : Value) (l : List ℕ) (r : List Frame × Value) → nat_le 2 (level x.hole) ≡ b → EndsAs (forced_in true fs false (places (close x v)) (places (close x v))) (with_both r ended_after)
    → EndsAs (forced_in true (x ∷ fs) false l (places v)) (with_both (if b then r else (x ∷ fs, v)) ended_after)
closed-as-if true x fs v l r e y = subst (λ p. EndsAs p (with_both r ended_after)) (sym (operator-plain true x.hole x (is_nil fs) false l (places v) (forced_in true fs) (less-true true 2 _ (omega arith) e)).0) y
closed-as-if false x fs v l r e y = closed-as-in x.hole x fs v l

-- an operator is before it
pub closed-as : (fs : List Frame) (v : Value) (l : List ℕ) → EndsAs (forced_in true fs false l (places v)) (with_both (closes 2 fs v) ended_after)
closed-as [] v l = refl
closed-as (x ∷ fs) v l = closed-as-if (nat_le 2 (level x.hole)) x fs v l (closes 2 fs (close x v)) refl (closed-as fs (close x v) (places (close x v)))

operator-as-if : (b : Bool) (x : Frame) (fs : List Frame) (v : Value) → nat_le 2 (level x.hole) ≡ b → b ≡ true → EndsAs (forced true (Has (x ∷ fs) v)) (with_both (if b then closes 2 fs (close x v) else (x ∷ fs, v)) ended_after)
operator-as-if false x fs v e t = no-true t
operator-as-if true x fs v e t =
    subst (λ p. EndsAs p (with_both (closes 2 fs (close x v)) ended_after)) (sym (operator-plain true x.hole x (is_nil fs) true (loose v) (places v) (forced_in true fs) (less-true true 2 _ (omega arith) e)).0) (closed-as fs (close x v) (places (close x v)))

pub operator-as : (x : Frame) (fs : List Frame) (v : Value) → nat_le 2 (level x.hole) ≡ true → EndsAs (forced true (Has (x ∷ fs) v)) (ended (Has (x ∷ fs) v))
operator-as x fs v e = operator-as-if (nat_le 2 (level x.hole)) x fs v refl e
