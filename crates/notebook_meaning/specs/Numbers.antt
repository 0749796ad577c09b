-- The numbers of a session, none of which reaches 2^32.
use Rattle.std.specs.Prelude.{◌≡◌, ℕ, ◌<◌, ◌≤◌, ◌^◌, ◌⊎◌, ◌↔◌, List, Contains, length}
use Rattle.std.specs.FinMap as finite
use Rattle.graph_model.specs.declared.graph.Graph.{Graph}
use Rattle.graph_model.specs.declared.graph.Version.{Version}
use Rattle.graph_model.specs.declared.plan.Tally.{Tally}
use Rattle.graph_model.specs.declared.plan.Tally.TheVariants as tally
use Rattle.graph_model.specs.Faults.{TextBelow, Ascends}
use Rattle.run_graph.specs.Histories.{IsHistory}
use Rattle.run_graph.specs.RunLists.{ListedCell, run_of}
use Rattle.every_history.specs.Reading.{read}
use Rattle.part_bytes.specs.Sizing.{size_of}
use Rattle.history_graph.specs.Texts.{IsTextIn}
use Rattle.history_graph.specs.Tallies.{rank}
use Rattle.notebook_meaning.specs.Cells.{unmoved}

-- g is the history of these cells
abbrev pub IsHistoryOf : List ListedCell → Graph → Type 0
IsHistoryOf cells g = IsHistory (run_of read size_of cells) g

-- it is the code of one of the cells
abbrev pub IsCodeIn : List ListedCell → List ℕ → Type 0
IsCodeIn cells t = (e : ListedCell) × Contains cells e × (e.code ≡ t)

-- after these cells: the count; the number of cells, of versions, of names with a value, of distinct texts among the codes and
-- in the state; and the size of a version that the last cell wrote
abbrev pub NumberAfter : List ListedCell → Tally → ℕ → Type 0
NumberAfter cells tally.Count n = n ≡ (unmoved cells).count
NumberAfter cells tally.Cells n = n ≡ length cells
NumberAfter cells tally.Versions n = (g : Graph) × IsHistoryOf cells g × (n ≡ length g.versions)
NumberAfter cells tally.Names n = n ≡ length (finite.keys (unmoved cells).globals)
NumberAfter cells tally.Texts n = (texts : List (List ℕ)) × Ascends TextBelow texts × ((t : List ℕ) → Contains texts t ↔ (IsCodeIn cells t ⊎ IsTextIn (unmoved cells) t))
    × (n ≡ length texts)
NumberAfter cells tally.Bytes n = (g : Graph) × IsHistoryOf cells g × (x : Version) × Contains g.versions x × (x.writer ≡ length cells) × (n ≡ x.size)

-- this number reaches 2^32
abbrev pub IsPassed : List ListedCell → Tally → Type 0
IsPassed cells which = (n : ℕ) × NumberAfter cells which n × (2 ^ 32 ≤ n)

-- it is the first that does
abbrev pub IsPassedFirst : List ListedCell → Tally → Type 0
IsPassedFirst cells which = IsPassed cells which × ((other : Tally) → rank other < rank which → ¬ IsPassed cells other)
