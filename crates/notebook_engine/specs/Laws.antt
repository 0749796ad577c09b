-- What a list of asks has: one history, which is a history graph; and what passes a number is no run.
use Rattle.std.proofs.Common.{◌≡◌, List}
use Rattle.nb_outside.specs.declared.feed.Drawn.{Drawn}
use Rattle.graph_model.specs.declared.graph.Graph.{Graph}
use Rattle.graph_model.specs.declared.plan.Tally.{Tally}
use Rattle.graph_model.specs.Faults.{IsGraph}
use Rattle.run_graph.specs.RunLists.{ListedCell, run_of}
use Rattle.run_graph.proofs.Only.{one_history}
use Rattle.run_graph.proofs.Checking.{checks}
use Rattle.run_graph.proofs.Runs.{is_run}
use Rattle.every_history.specs.Reading.{read}
use Rattle.every_history.proofs.Names.{has_names}
use Rattle.part_bytes.specs.Sizing.{size_of}
use Rattle.session_core.specs.declared.request.Ask.{Ask}
use Rattle.session_core.specs.declared.request.Ask.TheVariants.{Execute, Info, Complete, Shutdown, Migrate}
use Rattle.session_core.specs.Meanings.{Served, more}
use Rattle.notebook_meaning.specs.Cells.{cells_of}
use Rattle.notebook_meaning.specs.Lists.{MayServe, IsRunOfAsks}
use Rattle.notebook_meaning.specs.Notebooks.{IsGraphOf, Passes}
use Rattle.notebook_meaning.proofs.Lists.{last_may}

pub has_one_graph : (cells : List ListedCell) (g h : Graph) → IsGraphOf cells g → IsGraphOf cells h → g ≡ h
has_one_graph cells g h a b = one_history (run_of read size_of cells) g h a.history b.history

pub is_graph : (cells : List ListedCell) (g : Graph) → IsGraphOf cells g → IsGraph g
is_graph cells g a = checks (run_of read size_of cells) (is_run read cells size_of) g a.history (has_names size_of cells) a.few_cells a.few_versions

may_not : (cells : List ListedCell) (ask : Ask) (draws : List Drawn) (which : Tally) → MayServe cells ask draws → Passes cells ask draws which → ⊥
may_not cells (Execute code silent store) draws which may p = may.1.fits which p.1.first.0
may_not cells Info draws which may p = p
may_not cells (Complete code) draws which may p = p
may_not cells (Shutdown restart) draws which may p = p
may_not cells (Migrate to weights) draws which may p = p

pub passes_no_run : (served : List Served) (ask : Ask) (draws : List Drawn) (which : Tally) → Passes (cells_of served) ask draws which → IsRunOfAsks (more served ask draws) → ⊥
passes_no_run served ask draws which p run = may_not (cells_of served) ask draws which (last_may served ask draws run) p
