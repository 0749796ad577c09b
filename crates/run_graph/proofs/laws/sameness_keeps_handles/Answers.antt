use Rattle.run_graph.proofs.Weighing.{handles_alike}
use Rattle.run_graph.proofs.laws.sameness_keeps_handles.Goals as goal

pub returns : goal.returns
returns c = handles_alike
