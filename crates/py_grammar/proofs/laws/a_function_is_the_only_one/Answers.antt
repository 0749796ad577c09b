use Rattle.py_grammar.proofs.Failing.{only_definition}
use Rattle.py_grammar.proofs.laws.a_function_is_the_only_one.Goals as goal

pub returns : goal.returns
returns c = only_definition
