use Rattle.py_grammar.proofs.Failing.{failing_stops}
use Rattle.py_grammar.proofs.laws.it_stops_at_no_other.Goals as goal

pub returns : goal.returns
returns c = failing_stops
