use Rattle.py_grammar.proofs.Failing.{one_tree}
use Rattle.py_grammar.proofs.laws.the_tree_is_the_only_one.Goals as goal

pub returns : goal.returns
returns c = one_tree
