use Rattle.run_graph.specs.RunLists.{run_of}
use Rattle.run_graph.proofs.Checking.{checks}
use Rattle.run_graph.proofs.Holding.{the_parts}
use Rattle.run_graph.proofs.Standing.{stands}
use Rattle.run_graph.proofs.Repeating.{repeats_from_its_reads}
use Rattle.run_graph.proofs.Runs.{is_run, follows}
use Rattle.every_history.specs.Reading.{read}
use Rattle.every_history.proofs.Names.{has_names}
use Rattle.every_history.proofs.Histories.{history}
use Rattle.every_history.proofs.laws.every_list_of_codes_has_a_sound_history.Goals as goal

pub returns : goal.returns
returns c = λ size entries list.
    let r = run_of read size entries in
    let run = is_run read entries size in
    let has = history r run in
    record {
      graph = has.0;
      history = has.1;
      sound = record {
        parts = λ n l. the_parts r run has.0 has.1 n l;
        stands = λ n l. stands r run has.0 has.1 n l;
        repeats = λ n l. repeats_from_its_reads read r has.0 run (follows read entries size list) has.1 n l;
      };
      passes = λ few fewer. checks r run has.0 has.1 (has_names size entries) few fewer;
    }
