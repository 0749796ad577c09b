use Rattle.run_graph.specs.RunLists.{run_of}
use Rattle.run_graph.proofs.Holding.{the_parts}
use Rattle.run_graph.proofs.Standing.{stands}
use Rattle.run_graph.proofs.Repeating.{repeats_from_its_reads}
use Rattle.run_graph.proofs.Runs.{is_run, follows}
use Rattle.run_graph.proofs.laws.histories_are_sound.Goals as goal

pub returns : goal.returns
returns c = λ read size entries g list h.
    let run = is_run read entries size in
    record {
      parts = λ n l. the_parts (run_of read size entries) run g h n l;
      stands = λ n l. stands (run_of read size entries) run g h n l;
      repeats = λ n l. repeats_from_its_reads read (run_of read size entries) g run (follows read entries size list) h n l;
    }
