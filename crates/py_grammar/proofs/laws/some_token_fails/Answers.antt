use Rattle.py_grammar.proofs.Failing.{some_fails}
use Rattle.py_grammar.proofs.laws.some_token_fails.Goals as goal

pub returns : goal.returns
returns c = some_fails
