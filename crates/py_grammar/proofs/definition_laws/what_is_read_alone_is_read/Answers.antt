use Rattle.py_grammar.proofs.AloneRead.{alone-read}
use Rattle.py_grammar.specs.States.{start}
use Rattle.py_grammar.proofs.definition_laws.what_is_read_alone_is_read.Goals as goal

pub returns : goal.returns
returns c = λ tokens state. alone-read tokens start state
