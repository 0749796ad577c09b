use Rattle.std.proofs.Common.{subst, add-one, arith, length}
use Rattle.std.specs.Prelude.{Contains}
use Rattle.graph_model.specs.Graphs.{CellAt}
use Rattle.run_graph.specs.RunLists.{run_of}
use Rattle.run_graph.proofs.Runs.{is_run, follows}
use Rattle.replay_laws.proofs.Walking.{walk_good, never_asks}
use Rattle.replay_laws.proofs.Ending.{restored}
use Rattle.replay_laws.proofs.laws.a_feasible_plan_restores_the_session.Goals as goal

pub returns-clause-never_asks : goal.returns-clause-never_asks
returns-clause-never_asks c = λ read copy size entries g p list h names feasible copies n t x walked rerun at.
    never_asks read copy (run_of read size entries) g p (is_run read entries size) (follows read entries size list) h names feasible copies n t x walked
    (subst (Contains p.rerun) (add-one n) rerun) (subst (λ m. CellAt g m x) (add-one n) at)

pub returns-clause-restores : goal.returns-clause-restores
returns-clause-restores c = λ read copy size entries g p list h names feasible copies t walked.
    let run = is_run read entries size in
    restored (run_of read size entries) run g h p feasible t
    (walk_good read copy (run_of read size entries) g p run (follows read entries size list) h names feasible copies (length entries) t walked (omega arith))
