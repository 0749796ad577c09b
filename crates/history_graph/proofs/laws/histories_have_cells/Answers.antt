use Rattle.history_graph.proofs.Standing.{history_has_cells}
use Rattle.history_graph.proofs.laws.histories_have_cells.Goals as goal

pub returns : goal.returns
returns c = λ r n g run h. history_has_cells r n g run h
