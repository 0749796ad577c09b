use Rattle.std.proofs.Common.{subst, sym, add-one, arith}
use Rattle.run_graph.specs.Fitting.{Fits}
use Rattle.run_graph.proofs.Fitting.{fits_still, checks_still}
use Rattle.history_graph.specs.Ends.{HasCells}
use Rattle.history_graph.proofs.Standing.{graph_has_cells}
use Rattle.history_graph.proofs.laws.a_checked_graph_stays_one.Goals as goal

pub returns-clause-checks : goal.returns-clause-checks
returns-clause-checks c = λ r n s code meter steps marks old now makes is parts good cells fits step few fewer.
    let next = makes r n is (record { graph = subst (λ m. HasCells m old.graph) cells (graph_has_cells old.graph good); parts = parts }) in
    checks_still r n old.graph now.graph next good cells fits step (omega (arith, few)) fewer

pub returns-clause-fits : goal.returns-clause-fits
returns-clause-fits c = λ r n s code meter steps marks old now makes is parts good cells fits step tells.
    let next = makes r n is (record { graph = subst (λ m. HasCells m old.graph) cells (graph_has_cells old.graph good); parts = parts }) in
    subst (λ m. Fits r m now.graph) (sym (add-one n)) (fits_still r n old.graph now.graph next good cells fits step tells)
