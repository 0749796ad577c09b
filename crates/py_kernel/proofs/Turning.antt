-- A loop with turns left makes one, and goes on with one turn less; one with none left ends.
use Rattle.std.proofs.Common.{◌≡◌, ℕ, suc, Bool, ◌+◌, ◌-◌, ◌<◌, ◌≤◌, List, ap, arith}
use Rattle.nb_outside.specs.declared.feed.Drawn.{Drawn}
use Rattle.py_tree.specs.declared.expressions.Expr.{Expr}
use Rattle.py_tree.specs.declared.statements.Stmt.{Stmt}
use Rattle.py_machine.specs.declared.frame.Flow.TheVariants as flow
use Rattle.py_machine.specs.declared.iteration.Iteration.{Iteration}
use Rattle.py_machine.specs.declared.machine.Machine.{Machine}
use Rattle.py_machine.specs.Errors.{step_limit_error}
use Rattle.py_machine.specs.Runs.{Name, raise}
use Rattle.py_meaning.specs.Acts.{◌>>=◌, pure, run, choose}
use Rattle.py_meaning.specs.Truth.{truth_of}
use Rattle.py_meaning.specs.Iterating.{advance}
use Rattle.py_meaning.specs.Meaning.{Inner, block, after_turn, turns, turn, rounds}

pub turned : (inner : Inner) (n i : ℕ) (test : Expr) (body : List Stmt) (draws : List Drawn) (m : Machine) → i < n
    → run (turns inner (n - i) test body) draws m
    ≡ run (inner.eval test >>= (λ held. truth_of held >>= (λ truth. choose truth (block inner body >>= (λ ended. after_turn ended (turns inner (n - (i + 1)) test body))) (pure flow.Next)))) draws m
unfolding turns
turned inner n i test body draws m some =
    let e : n - i ≡ suc (n - (i + 1)) = omega arith in
    ap (λ k. run (turns inner k test body) draws m) e

pub turns_spent : (inner : Inner) (n i : ℕ) (test : Expr) (body : List Stmt) (draws : List Drawn) (m : Machine) → n ≤ i
    → run (turns inner (n - i) test body) draws m ≡ raise step_limit_error m
unfolding turns
turns_spent inner n i test body draws m none =
    let e : n - i ≡ 0 = omega arith in
    ap (λ k. run (turns inner k test body) draws m) e

pub rounded : (inner : Inner) (n i : ℕ) (names : List Name) (comma : Bool) (body : List Stmt) (from : Iteration) (draws : List Drawn) (m : Machine) → i < n
    → run (rounds inner (n - i) names comma body from) draws m
    ≡ run (advance from >>= (λ next. turn inner names comma next (λ rest. block inner body >>= (λ ended. after_turn ended (rounds inner (n - (i + 1)) names comma body rest))))) draws m
unfolding rounds
rounded inner n i names comma body from draws m some =
    let e : n - i ≡ suc (n - (i + 1)) = omega arith in
    ap (λ k. run (rounds inner k names comma body from) draws m) e

pub rounds_spent : (inner : Inner) (n i : ℕ) (names : List Name) (comma : Bool) (body : List Stmt) (from : Iteration) (draws : List Drawn) (m : Machine) → n ≤ i
    → run (rounds inner (n - i) names comma body from) draws m ≡ raise step_limit_error m
unfolding rounds
rounds_spent inner n i names comma body from draws m none =
    let e : n - i ≡ 0 = omega arith in
    ap (λ k. run (rounds inner k names comma body from) draws m) e
