use Rattle.py_grammar.proofs.AloneFailing.{one_failure}
use Rattle.py_grammar.proofs.definition_laws.the_failing_token_alone_is_the_only_one.Goals as goal

pub returns : goal.returns
returns c = one_failure
