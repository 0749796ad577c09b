use Rattle.std.proofs.Common.{◌≡◌, length}
use Rattle.py_value.specs.Numbers as spec
use Rattle.py_value.proofs.number.without_front.Given as goal

abbrev pub invariant-loop-rest : goal.invariant-loop-rest
invariant-loop-rest l = spec.without_front l.bytes ≡ spec.without_front l.rest

abbrev pub decreases-loop-rest : goal.decreases-loop-rest
decreases-loop-rest l = length l.rest
