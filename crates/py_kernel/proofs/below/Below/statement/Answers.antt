use Rattle.py_meaning.proofs.Opened.{out-show}
use Rattle.py_kernel.proofs.below.Below.statement.Goals as goal

pub returns-in-Expression-clause-runs : goal.returns-in-Expression-clause-runs
returns-in-Expression-clause-runs g c = λ draws b told. rw (c.in-Expression.is, out-show c.in-Expression.value) (c.show.ensures.runs draws b told)
