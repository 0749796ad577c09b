use Rattle.history_graph.proofs.Standing.{graph_has_cells}
use Rattle.history_graph.proofs.laws.checked_graphs_have_cells.Goals as goal

pub returns : goal.returns
returns c = λ g good. graph_has_cells g good
