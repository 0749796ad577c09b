use Rattle.py_grammar.proofs.AloneRead.{read_iff_one}
use Rattle.py_grammar.proofs.definition_laws.what_is_read_alone_is_one_function.Goals as goal

pub returns : goal.returns
returns c = read_iff_one
