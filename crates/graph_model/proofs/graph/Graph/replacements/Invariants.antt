use Rattle.graph_model.specs.Walks.{IsIndex, IsLeastClash}
use Rattle.graph_model.proofs.graph.Graph.replacements.Given as goal

abbrev pub invariant-loop-v : goal.invariant-loop-v
invariant-loop-v l = record {
  index : IsIndex l.self l.v l.found.index;
  clash : IsLeastClash l.self l.v l.found.clash;
}

abbrev pub decreases-loop-v : goal.decreases-loop-v
decreases-loop-v l = l.v
