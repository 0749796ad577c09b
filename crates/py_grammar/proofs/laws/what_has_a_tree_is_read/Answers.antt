use Rattle.py_grammar.proofs.Failing.{is_in_grammar}
use Rattle.py_grammar.proofs.laws.what_has_a_tree_is_read.Goals as goal

pub returns : goal.returns
returns c = is_in_grammar
