use Rattle.run_graph.proofs.Runs.{is_run, follows}
use Rattle.run_graph.proofs.laws.a_run_list_is_a_run.Goals as goal

pub returns-clause-run : goal.returns-clause-run
returns-clause-run c = λ read size entries. is_run read entries size

pub returns-clause-follows : goal.returns-clause-follows
returns-clause-follows c = λ read size entries list. follows read entries size list
