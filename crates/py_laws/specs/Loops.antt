-- Loops with no bound: what goes on after a turn is the same loop. (Python reference: the `while` and `for` statements.)
use Rattle.std.specs.Prelude.{◌≡◌, Bool, List}
use Rattle.nb_outside.specs.declared.feed.Drawn.{Drawn}
use Rattle.py_tree.specs.declared.expressions.Expr.{Expr}
use Rattle.py_tree.specs.declared.statements.Stmt.{Stmt}
use Rattle.py_machine.specs.declared.frame.Flow.{Flow}
use Rattle.py_machine.specs.declared.frame.Flow.TheVariants as flow
use Rattle.py_machine.specs.declared.iteration.Iteration.{Iteration}
use Rattle.py_machine.specs.declared.machine.Machine.{Machine}
use Rattle.py_machine.specs.Runs.{Name}
use Rattle.py_meaning.specs.Acts.{Act, ◌>>=◌, pure, choose, run}
use Rattle.py_meaning.specs.Truth.{truth_of}
use Rattle.py_meaning.specs.Iterating.{advance}
use Rattle.py_meaning.specs.Meaning.{Inner, after_turn, block, turn}

-- two acts do the same on each machine, under all draws
abbrev pub RunAlike : Act Flow → Act Flow → Type 0
RunAlike p q = (draws : List Drawn) (m : Machine) → run p draws m ≡ run q draws m

module _ (inner : Inner) where
  -- the body if the test counts as true, and then what `more` does; else the loop is over
  abbrev pub while_turn : Expr → List Stmt → Act Flow → Act Flow
  while_turn test body more =
      inner.eval test >>= (λ held. truth_of held >>= (λ truth. choose truth (block inner body >>= (λ ended. after_turn ended more)) (pure flow.Next)))

  -- the body with what comes next, if there is a next, and then what `more` does with what is left
  abbrev pub for_turn : List Name → Bool → List Stmt → Iteration → (Iteration → Act Flow) → Act Flow
  for_turn names comma body from more =
      advance from >>= (λ next. turn inner names comma next (λ rest. block inner body >>= (λ ended. after_turn ended (more rest))))
