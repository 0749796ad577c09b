use Rattle.every_history.proofs.Histories.{next}
use Rattle.every_history.proofs.laws.each_cell_makes_a_graph.Goals as goal

pub returns : goal.returns
returns q = λ r c g before after. next r c g before after
