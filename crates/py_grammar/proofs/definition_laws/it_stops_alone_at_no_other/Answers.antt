use Rattle.py_grammar.proofs.AloneFailing.{failing_stops}
use Rattle.py_grammar.proofs.definition_laws.it_stops_alone_at_no_other.Goals as goal

pub returns : goal.returns
returns c = failing_stops
