use Rattle.py_blocks.proofs.Sooner.{moves-grow}
use Rattle.py_blocks.proofs.laws.what_is_forced_stays_forced.Goals as goal

pub returns : goal.returns
returns c = moves-grow
