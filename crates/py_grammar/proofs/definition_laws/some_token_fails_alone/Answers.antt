use Rattle.py_grammar.proofs.AloneFailing.{some_fails}
use Rattle.py_grammar.proofs.definition_laws.some_token_fails_alone.Goals as goal

pub returns : goal.returns
returns c = some_fails
