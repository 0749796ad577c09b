use Rattle.std.proofs.Common.{refl}
use Rattle.py_kernel.proofs.Levels.{level-left}
use Rattle.py_kernel.proofs.below.Below.is_last.Goals as goal

pub returns : goal.returns
returns g c = rw (level-left c.args.self.now.left) refl
