use Rattle.std.proofs.Common.{◌≡◌, ◌+◌, ◌≤◌, length}
use Rattle.std.specs.Prelude.{sum_by}
use Rattle.py_value.specs.Values.{weight}
use Rattle.py_meaning.specs.Operators.{sequence_units}
use Rattle.py_ops.proofs.operators.charge_sequence.Given as goal

abbrev pub invariant-loop-rest : goal.invariant-loop-rest
invariant-loop-rest l = (sequence_units l.fn.items ≡ l.units + sum_by weight l.rest) × (l.units ≤ 16777216)

abbrev pub decreases-loop-rest : goal.decreases-loop-rest
decreases-loop-rest l = length l.rest
