use Rattle.py_grammar.proofs.Failing.{is_failing}
use Rattle.py_grammar.proofs.laws.it_stops_at_the_failing_token.Goals as goal

pub returns : goal.returns
returns c = is_failing
