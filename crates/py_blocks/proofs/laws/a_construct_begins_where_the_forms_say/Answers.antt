use Rattle.py_blocks.proofs.Beyond.{outside-same}
use Rattle.py_blocks.proofs.laws.a_construct_begins_where_the_forms_say.Goals as goal

pub returns : goal.returns
returns c = outside-same
