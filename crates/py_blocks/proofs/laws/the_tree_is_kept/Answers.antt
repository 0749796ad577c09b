use Rattle.py_blocks.proofs.Trees.{statement-kept}
use Rattle.py_blocks.proofs.laws.the_tree_is_kept.Goals as goal

pub returns : goal.returns
returns c = λ place texts x rest source a e stands h is. statement-kept place texts x rest source a e stands h is
