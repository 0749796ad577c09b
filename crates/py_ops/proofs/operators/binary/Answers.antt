use Rattle.std.proofs.Common.{◌≡◌, sym, ◌∙◌, Some, arith, to_z, of_z, to_z-of_z}
use Rattle.std.specs.Int.{w128}
use Rattle.py_meaning.specs.Numbers.{as_number}
use Rattle.py_meaning.specs.Operators.{operated}
use Rattle.py_ops.proofs.operators.binary.Goals as goal

pub returns-in-Some-Some-clause-runs : goal.returns-in-Some-Some-clause-runs
unfolding operated
returns-in-Some-Some-clause-runs c = λ draws told.
    let first : as_number c.args.left.now ≡ Some c.in-Some-Some.a = sym c.as_number.ensures ∙ c.in-Some-Some.is-0 in
    let second : as_number c.args.right.now ≡ Some c.in-Some-Some.b = sym c.as_number-2.ensures ∙ c.in-Some-Some.is-1 in
    let back : to_z w128 (of_z w128 c.in-Some-Some.a) ≡ c.in-Some-Some.a = grind (arith, to_z-of_z) in
    let again : to_z w128 (of_z w128 c.in-Some-Some.b) ≡ c.in-Some-Some.b = grind (arith, to_z-of_z) in
    rw (first, second) (rw again at (rw back at (c.calculated.ensures draws told)))
