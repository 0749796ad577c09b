use Rattle.std.proofs.Common.{length, arith}
use Rattle.run_graph.specs.RunLists.{run_of}
use Rattle.run_graph.proofs.Runs.{is_run, follows}
use Rattle.replay_laws.proofs.Walking.{walk_made}
use Rattle.replay_laws.proofs.laws.a_walk_can_be_made.Goals as goal

pub returns : goal.returns
returns c = λ read copy size entries g p list h names feasible copies.
    walk_made read copy (run_of read size entries) g p (is_run read entries size) (follows read entries size list) h names feasible copies (length entries) (omega arith)
