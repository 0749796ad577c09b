use Rattle.py_grammar.proofs.AloneRead.{begins_iff_read}
use Rattle.py_grammar.proofs.definition_laws.what_is_read_alone_begins_a_function.Goals as goal

pub returns : goal.returns
returns c = begins_iff_read
