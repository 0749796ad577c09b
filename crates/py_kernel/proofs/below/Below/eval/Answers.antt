use Rattle.std.proofs.Common.{◌≡◌, ap, arith}
use Rattle.py_machine.specs.Errors.{recursion_error}
use Rattle.py_meaning.specs.Acts.{run}
use Rattle.py_meaning.specs.Meaning.{level}
use Rattle.py_kernel.proofs.Leaves.{out-name, out-literal}
use Rattle.py_kernel.proofs.Levels.{some_left}
use Rattle.py_kernel.proofs.below.Below.eval.Goals as goal

pub returns-then-self-eq0-clause-runs : goal.returns-then-self-eq0-clause-runs
unfolding level
returns-then-self-eq0-clause-runs g c = λ draws b told.
    let none : c.args.self.now.left ≡ 0 = omega arith in
    let error : c.in_ok-recursion_error.field-0 ≡ recursion_error = c.in_ok-recursion_error.ensures in
    rw error (ap (λ n. run ((level n).eval c.args.expression.now) draws c.args.machine.now) none)

pub returns-in-Name-clause-runs : goal.returns-in-Name-clause-runs
unfolding level
returns-in-Name-clause-runs g c = λ draws b told.
    rw (some_left (λ n. run ((level n).eval c.args.expression.now) draws c.args.machine.now) c.args.self.now.left (omega arith), c.in-Name.is, out-name c.in-Name.name) (c.name_value.ensures.runs draws told)

pub returns-in-Literal-clause-runs : goal.returns-in-Literal-clause-runs
unfolding level
returns-in-Literal-clause-runs g c = λ draws b told.
    rw (some_left (λ n. run ((level n).eval c.args.expression.now) draws c.args.machine.now) c.args.self.now.left (omega arith), c.in-Literal.is, out-literal c.in-Literal.literal) (c.literal_value.ensures.runs draws told)
