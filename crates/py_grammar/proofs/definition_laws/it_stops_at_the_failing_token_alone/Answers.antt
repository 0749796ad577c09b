use Rattle.py_grammar.proofs.AloneFailing.{is_failing}
use Rattle.py_grammar.proofs.definition_laws.it_stops_at_the_failing_token_alone.Goals as goal

pub returns : goal.returns
returns c = is_failing
