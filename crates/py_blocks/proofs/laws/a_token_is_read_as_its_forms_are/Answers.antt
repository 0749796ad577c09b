use Rattle.py_blocks.proofs.Following.{step-follows}
use Rattle.py_blocks.proofs.laws.a_token_is_read_as_its_forms_are.Goals as goal

pub returns : goal.returns
returns c = step-follows
