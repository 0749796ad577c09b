-- What each statement binds and declares global.
use Rattle.std.proofs.Common.{◌≡◌, ℕ, Option, List, [], ◌∷◌, ◌++◌, sym, ap, ◌∙◌, append_assoc, refl, arith, length, get_or, take, ◌<◌, ◌+◌, Bool}
use Rattle.std.proofs.lemmas.List.{take_more, append-nil}
use Rattle.std.proofs.lemmas.Grind.{common_steps}
use Rattle.std.specs.Prelude.{map}
use Rattle.py_tree.specs.declared.expressions.Expr.{Expr}
use Rattle.py_tree.specs.declared.expressions.Op.{Op}
use Rattle.py_tree.specs.declared.expressions.Target.{Target}
use Rattle.py_tree.specs.declared.locals.Names as collected
use Rattle.py_tree.specs.declared.statements.Arm.{Arm, out-Arm}
use Rattle.py_tree.specs.declared.statements.Def.{Def}
use Rattle.py_tree.specs.declared.statements.Stmt.{Stmt}
use Rattle.py_tree.specs.declared.statements.Stmt.TheOpen.{Stmt-F}
use Rattle.py_tree.specs.declared.statements.Stmt.TheFolds.{fold-roll-Stmt, fold_out-Arm}
use Rattle.py_tree.specs.declared.statements.Stmt.TheVariants as s
use Rattle.py_tree.specs.Added.{added}
use Rattle.py_tree.specs.Locals.{Names, joined, bound_at, bound_at_all, bound_step, globals_step, arm_step, def_step, bound_by, global_by, bound_by_arm, global_by_arm, bound_in, globals_in, bound_in_arms, globals_in_arms}

pub bound-pass : bound_by s.Pass ≡ []
unfolding bound_by bound_by_arm
bound-pass = ap bound_by (sym s.rolls-Pass) ∙ fold-roll-Stmt Names Names Names bound_step arm_step def_step Stmt-F.Pass

pub global-pass : global_by s.Pass ≡ []
unfolding global_by global_by_arm
global-pass = ap global_by (sym s.rolls-Pass) ∙ fold-roll-Stmt Names Names Names globals_step arm_step def_step Stmt-F.Pass

pub bound-break : bound_by s.Break ≡ []
unfolding bound_by bound_by_arm
bound-break = ap bound_by (sym s.rolls-Break) ∙ fold-roll-Stmt Names Names Names bound_step arm_step def_step Stmt-F.Break

pub global-break : global_by s.Break ≡ []
unfolding global_by global_by_arm
global-break = ap global_by (sym s.rolls-Break) ∙ fold-roll-Stmt Names Names Names globals_step arm_step def_step Stmt-F.Break

pub bound-continue : bound_by s.Continue ≡ []
unfolding bound_by bound_by_arm
bound-continue = ap bound_by (sym s.rolls-Continue) ∙ fold-roll-Stmt Names Names Names bound_step arm_step def_step Stmt-F.Continue

pub global-continue : global_by s.Continue ≡ []
unfolding global_by global_by_arm
global-continue = ap global_by (sym s.rolls-Continue) ∙ fold-roll-Stmt Names Names Names globals_step arm_step def_step Stmt-F.Continue

pub bound-return : (e : Option Expr) → bound_by (s.Return e) ≡ []
unfolding bound_by bound_by_arm
bound-return e = ap bound_by (sym (s.rolls-Return e)) ∙ fold-roll-Stmt Names Names Names bound_step arm_step def_step (Stmt-F.Return e)

pub global-return : (e : Option Expr) → global_by (s.Return e) ≡ []
unfolding global_by global_by_arm
global-return e = ap global_by (sym (s.rolls-Return e)) ∙ fold-roll-Stmt Names Names Names globals_step arm_step def_step (Stmt-F.Return e)

pub bound-show : (e : Expr) → bound_by (s.Expression e) ≡ []
unfolding bound_by bound_by_arm
bound-show e = ap bound_by (sym (s.rolls-Expression e)) ∙ fold-roll-Stmt Names Names Names bound_step arm_step def_step (Stmt-F.Expression e)

pub global-show : (e : Expr) → global_by (s.Expression e) ≡ []
unfolding global_by global_by_arm
global-show e = ap global_by (sym (s.rolls-Expression e)) ∙ fold-roll-Stmt Names Names Names globals_step arm_step def_step (Stmt-F.Expression e)

pub bound-function : (d : Def) → bound_by (s.Function d) ≡ []
unfolding bound_by bound_by_arm
bound-function d = ap bound_by (sym (s.rolls-Function d)) ∙ fold-roll-Stmt Names Names Names bound_step arm_step def_step (Stmt-F.Function d)

pub global-function : (d : Def) → global_by (s.Function d) ≡ []
unfolding global_by global_by_arm
global-function d = ap global_by (sym (s.rolls-Function d)) ∙ fold-roll-Stmt Names Names Names globals_step arm_step def_step (Stmt-F.Function d)

pub bound-global : (names : Names) → bound_by (s.Global names) ≡ []
unfolding bound_by bound_by_arm
bound-global names = ap bound_by (sym (s.rolls-Global names)) ∙ fold-roll-Stmt Names Names Names bound_step arm_step def_step (Stmt-F.Global names)

pub global-global : (names : Names) → global_by (s.Global names) ≡ names
unfolding global_by global_by_arm
global-global names = ap global_by (sym (s.rolls-Global names)) ∙ fold-roll-Stmt Names Names Names globals_step arm_step def_step (Stmt-F.Global names)

pub bound-delete : (target : Target) → bound_by (s.Delete target) ≡ bound_at target
unfolding bound_by bound_by_arm
bound-delete target = ap bound_by (sym (s.rolls-Delete target)) ∙ fold-roll-Stmt Names Names Names bound_step arm_step def_step (Stmt-F.Delete target)

pub global-delete : (target : Target) → global_by (s.Delete target) ≡ []
unfolding global_by global_by_arm
global-delete target = ap global_by (sym (s.rolls-Delete target)) ∙ fold-roll-Stmt Names Names Names globals_step arm_step def_step (Stmt-F.Delete target)

pub bound-assign : (targets : List Target) (comma : Bool) (e : Expr) → bound_by (s.Assign targets comma e) ≡ bound_at_all targets
unfolding bound_by bound_by_arm
bound-assign targets comma e = ap bound_by (sym (s.rolls-Assign targets comma e)) ∙ fold-roll-Stmt Names Names Names bound_step arm_step def_step (Stmt-F.Assign targets comma e)

pub global-assign : (targets : List Target) (comma : Bool) (e : Expr) → global_by (s.Assign targets comma e) ≡ []
unfolding global_by global_by_arm
global-assign targets comma e = ap global_by (sym (s.rolls-Assign targets comma e)) ∙ fold-roll-Stmt Names Names Names globals_step arm_step def_step (Stmt-F.Assign targets comma e)

pub bound-augment : (target : Target) (op : Op) (e : Expr) → bound_by (s.Augment target op e) ≡ bound_at target
unfolding bound_by bound_by_arm
bound-augment target op e = ap bound_by (sym (s.rolls-Augment target op e)) ∙ fold-roll-Stmt Names Names Names bound_step arm_step def_step (Stmt-F.Augment target op e)

pub global-augment : (target : Target) (op : Op) (e : Expr) → global_by (s.Augment target op e) ≡ []
unfolding global_by global_by_arm
global-augment target op e = ap global_by (sym (s.rolls-Augment target op e)) ∙ fold-roll-Stmt Names Names Names globals_step arm_step def_step (Stmt-F.Augment target op e)

pub bound-if : (arms : List Arm) (other : List Stmt) → bound_by (s.If arms other) ≡ bound_in_arms arms ++ bound_in other
unfolding bound_by bound_by_arm
bound-if arms other = ap bound_by (sym (s.rolls-If arms other)) ∙ fold-roll-Stmt Names Names Names bound_step arm_step def_step (Stmt-F.If arms other)

pub global-if : (arms : List Arm) (other : List Stmt) → global_by (s.If arms other) ≡ globals_in_arms arms ++ globals_in other
unfolding global_by global_by_arm
global-if arms other = ap global_by (sym (s.rolls-If arms other)) ∙ fold-roll-Stmt Names Names Names globals_step arm_step def_step (Stmt-F.If arms other)

pub bound-while : (test : Expr) (body : List Stmt) → bound_by (s.While test body) ≡ bound_in body
unfolding bound_by bound_by_arm
bound-while test body = ap bound_by (sym (s.rolls-While test body)) ∙ fold-roll-Stmt Names Names Names bound_step arm_step def_step (Stmt-F.While test body)

pub global-while : (test : Expr) (body : List Stmt) → global_by (s.While test body) ≡ globals_in body
unfolding global_by global_by_arm
global-while test body = ap global_by (sym (s.rolls-While test body)) ∙ fold-roll-Stmt Names Names Names globals_step arm_step def_step (Stmt-F.While test body)

pub bound-for : (names : Names) (comma : Bool) (e : Expr) (body : List Stmt) → bound_by (s.For names comma e body) ≡ names ++ bound_in body
unfolding bound_by bound_by_arm
bound-for names comma e body = ap bound_by (sym (s.rolls-For names comma e body)) ∙ fold-roll-Stmt Names Names Names bound_step arm_step def_step (Stmt-F.For names comma e body)

pub global-for : (names : Names) (comma : Bool) (e : Expr) (body : List Stmt) → global_by (s.For names comma e body) ≡ globals_in body
unfolding global_by global_by_arm
global-for names comma e body = ap global_by (sym (s.rolls-For names comma e body)) ∙ fold-roll-Stmt Names Names Names globals_step arm_step def_step (Stmt-F.For names comma e body)

pub bound-arm : (arm : Arm) → bound_by_arm arm ≡ bound_in (out-Arm arm).body
unfolding bound_by_arm bound_by
bound-arm arm = fold_out-Arm Names Names Names bound_step arm_step def_step arm

pub global-arm : (arm : Arm) → global_by_arm arm ≡ globals_in (out-Arm arm).body
unfolding global_by_arm global_by
global-arm arm = fold_out-Arm Names Names Names globals_step arm_step def_step arm

-- one more statement, or arm, at the end
pub joined-push : {X : Type 0} (f : X → Names) (xs : List X) (x : X) → joined (map f (xs ++ x ∷ [])) ≡ joined (map f xs) ++ f x
joined-push f [] x = grind (arith, common_steps)
joined-push f (y ∷ ys) x = let h = joined-push f ys x in grind (arith, common_steps, append_assoc, append-nil)

-- one more statement, or arm, of a block
pub one_more : {X : Type 0} (f g : X → Names) (xs : List X) (i : ℕ) (x : X) (first middle last : collected.Names) → i < length xs → x ≡ get_or xs i x
    → middle ≡ added first (joined (map f (take i xs))) (joined (map g (take i xs))) → last ≡ added middle (f x) (g x)
    → last ≡ added first (joined (map f (take (i + 1) xs))) (joined (map g (take (i + 1) xs)))
one_more f g xs i x first middle last within is before now =
    let more : take (i + 1) xs ≡ take i xs ++ x ∷ [] = take_more xs i x within ∙ ap (λ y. take i xs ++ y ∷ []) (sym is) in
    let fs = ap (λ ys. joined (map f ys)) more ∙ joined-push f (take i xs) x in
    let gs = ap (λ ys. joined (map g ys)) more ∙ joined-push g (take i xs) x in
    now ∙ ap (λ n. added n (f x) (g x)) before ∙ rw (fs, gs, append_assoc, append_assoc) refl

-- one more target
pub nothing-more : {X : Type 0} (f : X → Names) (xs : List X) (i : ℕ) (x : X) (first middle last : collected.Names) → i < length xs → x ≡ get_or xs i x
    → middle ≡ added first (joined (map f (take i xs))) [] → last ≡ added middle (f x) []
    → last ≡ added first (joined (map f (take (i + 1) xs))) []
nothing-more f xs i x first middle last within is before now =
    let more : take (i + 1) xs ≡ take i xs ++ x ∷ [] = take_more xs i x within ∙ ap (λ y. take i xs ++ y ∷ []) (sym is) in
    let fs = ap (λ ys. joined (map f ys)) more ∙ joined-push f (take i xs) x in
    now ∙ ap (λ n. added n (f x) []) before ∙ rw (fs, append_assoc, append-nil) refl

pub ruleset walks = (bound-pass, global-pass, bound-break, global-break, bound-continue, global-continue, bound-return, global-return, bound-show, global-show, bound-function, global-function, bound-global, global-global, bound-delete, global-delete, bound-assign, global-assign, bound-augment, global-augment, bound-if, global-if, bound-while, global-while, bound-for, global-for, append_assoc, append-nil)
