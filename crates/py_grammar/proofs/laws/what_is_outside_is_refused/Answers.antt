use Rattle.py_grammar.proofs.Refused.{outside-refused}
use Rattle.py_grammar.proofs.laws.what_is_outside_is_refused.Goals as goal

pub returns : goal.returns
returns c = outside-refused
