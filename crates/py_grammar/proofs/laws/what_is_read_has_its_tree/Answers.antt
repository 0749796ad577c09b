use Rattle.py_grammar.proofs.Failing.{has_tree}
use Rattle.py_grammar.proofs.laws.what_is_read_has_its_tree.Goals as goal

pub returns : goal.returns
returns c = has_tree
