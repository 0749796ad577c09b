use Rattle.std.proofs.Common.{subst, add-one}
use Rattle.graph_model.specs.Graphs.{CellAt}
use Rattle.run_graph.proofs.Repeating.{own_reads}
use Rattle.run_graph.proofs.laws.a_cell_has_its_reads.Goals as goal

pub returns : goal.returns
returns c = λ r g run h n l x at. own_reads r g run h n l x (h.records n x (subst (λ m. CellAt g m x) (add-one n) at))
