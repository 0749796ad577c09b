use Rattle.py_grammar.proofs.AloneFailing.{outside_is_refused}
use Rattle.py_grammar.proofs.definition_laws.what_is_outside_is_refused_alone.Goals as goal

pub returns : goal.returns
returns c = outside_is_refused
