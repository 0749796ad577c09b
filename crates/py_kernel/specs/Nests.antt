-- Function values that evaluate expressions and execute statements with up to a given number of levels left.
use Rattle.std.specs.Prelude.{ℕ, ◌≤◌, Result}
use Rattle.std.specs.declared.alloc.Global.{Global}
use denote.Ref.{Bor, MutBor}
use Rattle.nb_outside.specs.Feeds.{Seen}
use Rattle.py_tree.specs.declared.expressions.Expr.{Expr}
use Rattle.py_tree.specs.declared.statements.Stmt.{Stmt}
use Rattle.py_value.specs.declared.value.Value.{Value}
use Rattle.py_machine.specs.declared.error.Fault.{Fault}
use Rattle.py_machine.specs.declared.frame.Flow.{Flow}
use Rattle.py_machine.specs.declared.machine.Machine.{Machine}
use Rattle.py_machine.specs.Runs.{Computation, Runs, Grows, Feeding}
use Rattle.py_meaning.specs.Acts.{run}
use Rattle.py_meaning.specs.Meaning.{level}

-- one runs so, from a machine and beside a feed
abbrev pub RunsBeside : {A : Type 0} → Computation A → Machine → Seen → Result A Fault → Machine → Seen → Type 0
RunsBeside p old seen result new now = Runs p old result new × Grows old new × Feeding old.drawn seen new.drawn now

pub record Evals {F : Type 0} (seen : F → Seen) (left : ℕ) (pre : Global → ℕ → MutBor Machine → MutBor F → Bor Expr → Type 0)
    (post : Global → ℕ → MutBor Machine → MutBor F → Bor Expr → Result Value Fault → MutBor Machine → MutBor F → Type 0) : Type 0 where
  pub can_eval : (alloc : Global) (n : ℕ) (m : MutBor Machine) (f : MutBor F) (e : Bor Expr) → n ≤ left → pre alloc n m f e
  pub evals : (alloc : Global) (n : ℕ) (m after : MutBor Machine) (f g : MutBor F) (e : Bor Expr) (r : Result Value Fault) → n ≤ left → post alloc n m f e r after g
      → RunsBeside (run ((level n).eval e.now)) m.now (seen f.now) r after.now (seen g.now)

pub record Execs {F : Type 0} (seen : F → Seen) (left : ℕ) (pre : Global → ℕ → MutBor Machine → MutBor F → Bor Stmt → Type 0)
    (post : Global → ℕ → MutBor Machine → MutBor F → Bor Stmt → Result Flow Fault → MutBor Machine → MutBor F → Type 0) : Type 0 where
  pub can_exec : (alloc : Global) (n : ℕ) (m : MutBor Machine) (f : MutBor F) (s : Bor Stmt) → n ≤ left → pre alloc n m f s
  pub execs : (alloc : Global) (n : ℕ) (m after : MutBor Machine) (f g : MutBor F) (s : Bor Stmt) (r : Result Flow Fault) → n ≤ left → post alloc n m f s r after g
      → RunsBeside (run ((level n).exec s.now)) m.now (seen f.now) r after.now (seen g.now)
