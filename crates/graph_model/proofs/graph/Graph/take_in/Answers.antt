use Rattle.graph_model.proofs.Indexing.{index_down, least_down}
use Rattle.graph_model.proofs.graph.Graph.take_in.Goals as goal

pub returns-in-None-clause-index : goal.returns-in-None-clause-index
returns-in-None-clause-index c = index_down c.args.self.now c.args.v c.args.found.now.index c.in-None.ensures c.requires.index

pub returns-in-None-clause-clash : goal.returns-in-None-clause-clash
returns-in-None-clause-clash c = least_down c.args.self.now c.args.v c.args.found.now.clash (λ k. c.in-None.ensures k.0 k.1) c.requires.clash
