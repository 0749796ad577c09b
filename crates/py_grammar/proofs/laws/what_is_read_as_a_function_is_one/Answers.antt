use Rattle.py_grammar.proofs.Failing.{some_definition}
use Rattle.py_grammar.proofs.laws.what_is_read_as_a_function_is_one.Goals as goal

pub returns : goal.returns
returns c = some_definition
