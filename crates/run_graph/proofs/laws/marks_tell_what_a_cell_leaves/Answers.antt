use Rattle.run_graph.proofs.Marking.{is_after}
use Rattle.run_graph.proofs.laws.marks_tell_what_a_cell_leaves.Goals as goal

pub returns : goal.returns
returns c = is_after
