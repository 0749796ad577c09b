use Rattle.std.proofs.Common.{◌≡◌, ap, arith}
use Rattle.py_machine.specs.Errors.{recursion_error}
use Rattle.py_meaning.specs.Acts.{run}
use Rattle.py_meaning.specs.Meaning.{level}
use Rattle.py_kernel.proofs.Levels.{some_left}
use Rattle.py_kernel.proofs.run.+run.Goals as goal

pub eval-returns-clause-runs : goal.eval-returns-clause-runs
unfolding level
eval-returns-clause-runs g t c = λ draws b told.
    rw (some_left (λ n. run ((level n).eval c.args.expression.now) draws c.args.machine.now) c.args.left (omega arith)) (c.expression.ensures.runs draws b told)

pub eval-returns-then-left-eq0-clause-runs : goal.eval-returns-then-left-eq0-clause-runs
unfolding level
eval-returns-then-left-eq0-clause-runs g t c = λ draws b told.
    let none : c.args.left ≡ 0 = omega arith in
    let error : c.in_ok-recursion_error.field-0 ≡ recursion_error = c.in_ok-recursion_error.ensures in
    rw error (ap (λ n. run ((level n).eval c.args.expression.now) draws c.args.machine.now) none)

pub exec-returns-clause-runs : goal.exec-returns-clause-runs
unfolding level
exec-returns-clause-runs g t c = λ draws b told.
    rw (some_left (λ n. run ((level n).exec c.args.statement.now) draws c.args.machine.now) c.args.left (omega arith)) (c.statement.ensures.runs draws b told)

pub exec-returns-then-left-eq0-clause-runs : goal.exec-returns-then-left-eq0-clause-runs
unfolding level
exec-returns-then-left-eq0-clause-runs g t c = λ draws b told.
    let none : c.args.left ≡ 0 = omega arith in
    let error : c.in_ok-recursion_error.field-0 ≡ recursion_error = c.in_ok-recursion_error.ensures in
    rw error (ap (λ n. run ((level n).exec c.args.statement.now) draws c.args.machine.now) none)
