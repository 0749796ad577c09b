use Rattle.run_graph.specs.RunLists.{run_of}
use Rattle.run_graph.proofs.Runs.{is_run}
use Rattle.every_history.proofs.Histories.{history}
use Rattle.every_history.proofs.laws.every_run_has_a_history.Goals as goal

pub returns : goal.returns
returns c = record {
  run = history;
  run_list = λ trees size entries. history (run_of trees size entries) (is_run trees entries size);
}
