use Rattle.std.proofs.Common.{subst, sym, add-one}
use Rattle.run_graph.specs.Histories.{IsHistory}
use Rattle.run_graph.specs.Growing.{first_cells}
use Rattle.run_graph.proofs.Growing.{grown}
use Rattle.history_graph.proofs.Standing.{history_has_cells}
use Rattle.history_graph.proofs.laws.a_history_stays_one.Goals as goal

pub returns : goal.returns
returns c = λ r n s code meter steps marks old now makes is parts run h.
    let next = makes r n is (record { graph = history_has_cells r n old.graph run h; parts = parts }) in
    subst (λ m. IsHistory (first_cells r m) now.graph) (sym (add-one n)) (grown r n old.graph now.graph next run h)
