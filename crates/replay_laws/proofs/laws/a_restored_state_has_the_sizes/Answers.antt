use Rattle.std.proofs.Common.{refl, length}
use Rattle.run_graph.specs.RunLists.{state_after, run_of}
use Rattle.run_graph.proofs.Runs.{is_run}
use Rattle.replay_laws.proofs.Ending.{has_sizes, without_tallies}
use Rattle.replay_laws.proofs.laws.a_restored_state_has_the_sizes.Goals as goal

pub returns : goal.returns
returns c = λ read size entries g h tells t restored v x active.
    has_sizes (run_of read size entries) (is_run read entries size) g h t (without_tallies (state_after read entries (length entries)) t restored.same.names) size tells restored.closed (λ n names. refl) v x active
