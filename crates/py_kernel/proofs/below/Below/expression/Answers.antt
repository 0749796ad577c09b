use Rattle.py_kernel.proofs.Leaves.{out-name}
use Rattle.py_kernel.proofs.below.Below.expression.Goals as goal

pub returns-in-Name-clause-runs : goal.returns-in-Name-clause-runs
returns-in-Name-clause-runs g c = λ draws b told. rw (c.in-Name.is, out-name c.in-Name.name) (c.name_value.ensures.runs draws told)
