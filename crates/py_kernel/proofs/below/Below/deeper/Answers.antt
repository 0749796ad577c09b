use Rattle.std.proofs.Common.{◌≡◌, ◌-◌, ap, arith, rules}
use Rattle.py_machine.specs.Errors.{recursion_error}
use Rattle.py_machine.specs.Runs.{told}
use Rattle.py_meaning.specs.Acts.{run}
use Rattle.py_meaning.specs.Meaning.{level}
use Rattle.py_kernel.proofs.Levels.{some_left}
use Rattle.py_kernel.proofs.below.Below.deeper.Goals as goal

pub returns-then-self-eq0-clause-runs : goal.returns-then-self-eq0-clause-runs
unfolding level
returns-then-self-eq0-clause-runs g c = λ draws b told.
    let none : c.args.self.now.left ≡ 0 = omega arith in
    let error : c.in_ok-recursion_error.field-0 ≡ recursion_error = c.in_ok-recursion_error.ensures in
    rw error (ap (λ n. run ((level n).deeper c.args.expression.now) draws c.args.machine.now) none)

pub returns-clause-runs : goal.returns-clause-runs
unfolding level
returns-clause-runs g c = λ draws b tells.
    let below : run ((level (c.args.self.now.left - 1)).eval c.args.expression.now) draws c.args.machine.now ≡ (told c.eval.result, c.eval.new.arg4) = search rules in
    rw (some_left (λ n. run ((level n).deeper c.args.expression.now) draws c.args.machine.now) c.args.self.now.left (omega arith)) below
