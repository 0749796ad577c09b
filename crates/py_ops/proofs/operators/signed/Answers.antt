use Rattle.std.proofs.Common.{◌≡◌, sym, ◌∙◌, Some, arith, to_z, of_z, to_z-of_z}
use Rattle.std.specs.Int.{w128}
use Rattle.py_meaning.specs.Numbers.{as_number}
use Rattle.py_meaning.specs.Operators.{signed}
use Rattle.py_ops.proofs.operators.signed.Goals as goal

pub returns-then-minus : goal.returns-then-minus
unfolding signed
returns-then-minus c = λ draws told.
    let is : as_number c.args.value.now ≡ Some c.in-Some.number = sym c.as_number.ensures ∙ c.in-Some.is in
    let back : to_z w128 (of_z w128 c.in-Some.number) ≡ c.in-Some.number = grind (arith, to_z-of_z) in
    rw (is, c.if-minus.true) (rw back at (c.negated.ensures draws told))
