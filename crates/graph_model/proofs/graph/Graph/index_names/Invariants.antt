use Rattle.graph_model.proofs.Indexing.{IsBegun}
use Rattle.graph_model.proofs.graph.Graph.index_names.Given as goal

abbrev pub invariant-loop-name : goal.invariant-loop-name
invariant-loop-name l = IsBegun l.self l.v l.version.names l.name-index l.index
