use Rattle.run_graph.specs.RunLists.{run_of}
use Rattle.run_graph.proofs.Checking.{checks}
use Rattle.run_graph.proofs.Runs.{is_run}
use Rattle.run_graph.proofs.laws.a_history_passes_the_check.Goals as goal

pub returns-clause-run : goal.returns-clause-run
returns-clause-run c = λ r g run names h. checks r run g h names

pub returns-clause-run_list : goal.returns-clause-run_list
returns-clause-run_list c = λ read size entries g names h. checks (run_of read size entries) (is_run read entries size) g h names
