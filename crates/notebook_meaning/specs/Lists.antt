-- Which lists of asks a session may have served.
use Rattle.std.specs.Prelude.{◌≡◌, false, List, [], ◌∷◌, ◌++◌}
use Rattle.std.specs.Str.{IsUtf8}
use Rattle.nb_outside.specs.declared.feed.Drawn.{Drawn}
use Rattle.py_meaning.specs.Cells.{UsesUp}
use Rattle.graph_model.specs.declared.plan.Tally.{Tally}
use Rattle.run_graph.specs.Soundness.{statements}
use Rattle.run_graph.specs.RunLists.{ListedCell, raised}
use Rattle.every_history.specs.Reading.{read}
use Rattle.session_core.specs.declared.request.Ask.{Ask}
use Rattle.session_core.specs.declared.request.Ask.TheVariants.{Execute, Info, Complete, Shutdown, Migrate}
use Rattle.session_core.specs.Asks.{is_end}
use Rattle.session_core.specs.Meanings.{Served}
use Rattle.notebook_meaning.specs.Cells.{cell_of, with_ask, unmoved}
use Rattle.notebook_meaning.specs.Numbers.{IsPassed, IsPassedFirst}

-- after these cells, a cell takes just its draws, and leaves each number of the session below 2^32
pub record MayRun (cells : List ListedCell) (e : ListedCell) : Type 0 where
  pub uses : UsesUp (statements (read e.code)) (raised e (unmoved cells)) e.draws
  pub fits : (which : Tally) → ¬ IsPassed (cells ++ e ∷ []) which

-- after these cells, a cell takes just its draws, and with it this is the first number of the session that reaches 2^32
pub record Fills (cells : List ListedCell) (e : ListedCell) (which : Tally) : Type 0 where
  pub uses : UsesUp (statements (read e.code)) (raised e (unmoved cells)) e.draws
  pub first : IsPassedFirst (cells ++ e ∷ []) which

-- a code is a text; only a cell draws; a move is no ask of such a list
abbrev pub MayServe : List ListedCell → Ask → List Drawn → Type 0
MayServe cells (Execute code silent store) draws = IsUtf8 code × MayRun cells (cell_of code silent store draws)
MayServe cells Info draws = draws ≡ []
MayServe cells (Complete code) draws = draws ≡ []
MayServe cells (Shutdown restart) draws = draws ≡ []
MayServe cells (Migrate to weights) draws = ⊥

-- each may be served when its turn comes
abbrev pub MayServeAll : List ListedCell → List Served → Type 0
MayServeAll cells [] = Unit {0}
MayServeAll cells (s ∷ more) = MayServe cells s.ask s.draws × MayServeAll (with_ask cells s.ask s.draws) more

-- nothing comes after an end
abbrev pub EndsLast : List Served → Type 0
EndsLast [] = Unit {0}
EndsLast (s ∷ []) = Unit {0}
EndsLast (s ∷ next ∷ more) = (is_end s.ask ≡ false) × EndsLast (next ∷ more)

pub record IsRunOfAsks (served : List Served) : Type 0 where
  pub all : MayServeAll [] served
  pub ends_last : EndsLast served
