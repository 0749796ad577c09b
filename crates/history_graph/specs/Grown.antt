-- A graph with one more cell.
use Rattle.std.specs.Prelude.{◌≡◌, ℕ, zero, suc, ◌+◌, List, [], ◌∷◌, ◌++◌, Contains, length, slice_index_or}
use Rattle.std.specs.List.{AllZip}
use Rattle.py_machine.specs.Marked.{Name}
use Rattle.graph_model.specs.declared.graph.CellRecord.{CellRecord}
use Rattle.graph_model.specs.declared.graph.Version.{Version}
use Rattle.graph_model.specs.declared.graph.Graph.{Graph}
use Rattle.graph_model.specs.Graphs.{VersionAt}
use Rattle.run_graph.specs.Growing.{IsAged}
use Rattle.history_graph.specs.Sets.{Names, Has, HasOneOf}

-- the set has the names of these versions and no others
abbrev pub AreNamesOf : List Version → Names → Type 0
AreNamesOf news fresh = ((name : Name) → Has fresh name → (y : Version) × Contains news y × Contains y.names name)
    × ((name : Name) (y : Version) → Contains news y → Contains y.names name → Has fresh name)

-- the version of that number has one of these names
abbrev pub HasFresh : Graph → Names → ℕ → Type 0
HasFresh g fresh v = (x : Version) × VersionAt g v x × HasOneOf fresh x.names

-- the numbers after the last one, as many as the count
abbrev pub count_on : ℕ → ℕ → List ℕ
count_on last zero = []
count_on last (suc n) = count_on last n ++ (last + n + 1) ∷ []

-- the versions of these numbers are marked as replaced by the cell of number w, and the others stay
pub record AreMarked (w : ℕ) (numbers : List ℕ) (old now : List Version) : Type 0 where
  pub size : length now ≡ length old
  pub marked : (k : ℕ) (d : Version) → Contains numbers (k + 1) → slice_index_or now k d ≡ record (slice_index_or old k d) { replaced = w }
  pub rest : (k : ℕ) (d : Version) → ¬ Contains numbers (k + 1) → slice_index_or now k d ≡ slice_index_or old k d

-- k is g with this record and, after its own versions as the cell of number w leaves them, these
pub record IsGrown (w : ℕ) (cell : CellRecord) (news : List Version) (g k : Graph) : Type 0 where
  pub cells : k.cells ≡ g.cells ++ cell ∷ []
  pub olds : List Version
  pub versions : k.versions ≡ olds ++ news
  pub aged : AllZip (IsAged w news) g.versions olds
