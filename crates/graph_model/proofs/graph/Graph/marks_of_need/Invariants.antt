use Rattle.graph_model.proofs.Needing.{NeedSo}
use Rattle.graph_model.proofs.graph.Graph.marks_of_need.Given as goal

abbrev pub invariant-loop-left : goal.invariant-loop-left
invariant-loop-left l = NeedSo l.self l.v l.marks.items l.left

abbrev pub decreases-loop-left : goal.decreases-loop-left
decreases-loop-left l = l.left
