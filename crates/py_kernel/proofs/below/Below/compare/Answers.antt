use Rattle.py_kernel.proofs.Levels.{level-left}
use Rattle.py_kernel.proofs.below.Below.compare.Goals as goal

pub returns-clause-runs : goal.returns-clause-runs
returns-clause-runs g c = λ draws told. rw (level-left c.args.self.now.left) (c.compare.ensures.runs draws told)
