use Rattle.py_blocks.proofs.Following.{run-follows}
use Rattle.py_blocks.proofs.laws.tokens_are_read_as_their_forms_are.Goals as goal

pub returns : goal.returns
returns c = run-follows
