use Rattle.py_blocks.proofs.TooDeep.{tells-depth}
use Rattle.py_blocks.proofs.laws.what_is_forced_tells_what_is_too_deep.Goals as goal

pub returns : goal.returns
returns c = tells-depth
