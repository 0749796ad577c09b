use Rattle.std.proofs.Common.{◌≡◌, ap, arith}
use Rattle.py_machine.specs.Errors.{recursion_error}
use Rattle.py_show.specs.OnState.{written}
use Rattle.py_show.proofs.Deeper.{deeper}
use Rattle.py_show.proofs.shown.write_first.Goals as goal

pub returns : goal.returns
unfolding written
returns c = λ told.
    rw (deeper (λ n. written c.args.state.now n c.args.value.now c.args.out.now c.args.steps.now) c.args.left (omega arith)) (c.write_one.ensures told)

pub returns-then-left-eq0 : goal.returns-then-left-eq0
unfolding written
returns-then-left-eq0 c = λ told.
    let none : c.args.left ≡ 0 = omega arith in
    let error : c.in_ok-recursion_error.field-0 ≡ recursion_error = c.in_ok-recursion_error.ensures in
    rw error (ap (λ n. written c.args.state.now n c.args.value.now c.args.out.now c.args.steps.now) none)
