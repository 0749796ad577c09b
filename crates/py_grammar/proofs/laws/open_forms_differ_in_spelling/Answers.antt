use Rattle.py_grammar.proofs.Failing.{one_state}
use Rattle.py_grammar.proofs.laws.open_forms_differ_in_spelling.Goals as goal

pub returns : goal.returns
returns c = one_state
