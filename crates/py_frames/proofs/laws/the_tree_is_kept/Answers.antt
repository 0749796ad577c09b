use Rattle.py_frames.proofs.laws.the_tree_is_kept.Goals as goal
use Rattle.py_frames.proofs.Trees.{exprs-kept}

pub returns : goal.returns
returns c = exprs-kept
