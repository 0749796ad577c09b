use Rattle.run_graph.specs.RunLists.{run_of}
use Rattle.run_graph.proofs.Checking.{checks}
use Rattle.run_graph.proofs.Runs.{is_run}
use Rattle.every_history.specs.Reading.{read}
use Rattle.every_history.proofs.Names.{has_names}
use Rattle.every_history.proofs.run_laws.histories_of_codes_pass_the_check.Goals as goal

pub returns : goal.returns
returns c = λ size entries g h. checks (run_of read size entries) (is_run read entries size) g h (has_names size entries)
