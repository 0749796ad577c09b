use Rattle.graph_model.proofs.Needing.{MarksSo}
use Rattle.graph_model.proofs.graph.Graph.mark_writers.Given as goal

abbrev pub invariant-loop-v : goal.invariant-loop-v
invariant-loop-v l = MarksSo l.self l.reads l.fn.marks l.marks l.v-index
