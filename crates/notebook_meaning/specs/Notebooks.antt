-- What a notebook is: the lists of asks that it may serve, what it answers, and what such a list leaves.
use Rattle.std.specs.Prelude.{◌≡◌, ℕ, ◌<◌, ◌^◌, List, length}
use Rattle.std.specs.Str.{IsUtf8}
use Rattle.nb_outside.specs.declared.feed.Drawn.{Drawn}
use Rattle.graph_model.specs.declared.graph.Graph.{Graph}
use Rattle.graph_model.specs.declared.plan.Plan.{Plan}
use Rattle.graph_model.specs.declared.plan.Tally.{Tally}
use Rattle.run_graph.specs.RunLists.{ListedCell}
use Rattle.checkpoint_bytes.specs.Texts.{checkpoint_text}
use Rattle.checkpoint_laws.specs.Spelled.{HasText}
use Rattle.replay_laws.specs.Tidied.{AreObjectsOf}
use Rattle.session_core.specs.declared.request.Ask.{Ask}
use Rattle.session_core.specs.declared.request.Ask.TheVariants.{Execute, Info, Complete, Shutdown, Migrate}
use Rattle.session_core.specs.Meanings.{Meaning}
use Rattle.notebook_meaning.specs.Cells.{cell_of, cells_of, unmoved}
use Rattle.notebook_meaning.specs.Numbers.{IsHistoryOf}
use Rattle.notebook_meaning.specs.Lists.{Fills, IsRunOfAsks}
use Rattle.notebook_meaning.specs.Answers.{answer_after}

-- the history of these cells, with fewer than 2^32 cells and versions
pub record IsGraphOf (cells : List ListedCell) (g : Graph) : Type 0 where
  pub history : IsHistoryOf cells g
  pub few_cells : length cells < 2 ^ 32
  pub few_versions : length g.versions < 2 ^ 32

-- n is how many objects the names of the last state reach
abbrev pub HasObjectsOf : List ListedCell → ℕ → Type 0
HasObjectsOf cells n = (order : List ℕ) × AreObjectsOf (unmoved cells) order × (n ≡ length order)

-- the checkpoint of the last state and the history under a plan
pub record IsTextOf (cells : List ListedCell) (plan : Plan) (bytes : List ℕ) : Type 0 where
  pub graph : Graph
  pub is_graph : IsGraphOf cells graph
  pub has_text : HasText (unmoved cells) graph plan
  pub text : bytes ≡ checkpoint_text (unmoved cells) graph plan

-- the cell takes just these draws, and with it this is the first number that reaches 2^32. No other ask passes a number
abbrev pub Passes : List ListedCell → Ask → List Drawn → Tally → Type 0
Passes cells (Execute code silent store) draws which = IsUtf8 code × Fills cells (cell_of code silent store draws) which
Passes cells Info draws which = ⊥
Passes cells (Complete code) draws which = ⊥
Passes cells (Shutdown restart) draws which = ⊥
Passes cells (Migrate to weights) draws which = ⊥

abbrev pub notebooks : Meaning
notebooks = record {
  IsRun = IsRunOfAsks;
  answer = λ served ask draws. answer_after (cells_of served) ask draws;
  Passes = λ served ask draws which. Passes (cells_of served) ask draws which;
  count = λ served. (unmoved (cells_of served)).count;
  IsGraph = λ served g. IsGraphOf (cells_of served) g;
  HasObjects = λ served n. HasObjectsOf (cells_of served) n;
  IsText = λ served plan bytes. IsTextOf (cells_of served) plan bytes;
}
