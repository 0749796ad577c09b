-- How a history graph grows by one cell: the step of the fold that a history is.
use Rattle.std.specs.Prelude.{◌≡◌, ◌≢◌, ℕ, suc, ◌⊎◌, Bool, true, false, List, [], ◌∷◌, ◌++◌, Contains}
use Rattle.std.specs.List.{AllZip}
use Rattle.py_machine.specs.Runs.{Name}
use Rattle.graph_model.specs.declared.graph.CellRecord.{CellRecord}
use Rattle.graph_model.specs.declared.graph.Version.{Version}
use Rattle.graph_model.specs.declared.graph.Graph.{Graph}
use Rattle.graph_model.specs.Faults.{TextBelow, Ascends, least_name}
use Rattle.linked_parts.specs.Parts.{HasValue, IsPart}
use Rattle.run_graph.specs.Histories.{Run, IsKept, IsDeleted, IsLeft, IsWeighed, IsUnwritten, IsRecordWith}

-- the run of the first cells alone
abbrev pub first_cells : Run → ℕ → Run
first_cells r n = record r { cells = n }

-- the version has a name of one of these
abbrev pub Meets : List Version → Version → Type 0
Meets news x = (y : Version) × (name : Name) × Contains news y × Contains x.names name × Contains y.names name

-- y is x as the cell of number w leaves it, which wrote these versions: replaced by it if x was active and has a name of
-- theirs
pub record IsAged (w : ℕ) (news : List Version) (x y : Version) : Type 0 where
  pub names : y.names ≡ x.names
  pub writer : y.writer ≡ x.writer
  pub absent : y.absent ≡ x.absent
  pub handle : y.handle ≡ x.handle
  pub size : y.size ≡ x.size
  pub replaced : ((x.replaced ≢ 0) × (y.replaced ≡ x.replaced))
      ⊎ ((x.replaced ≡ 0) × Meets news x × (y.replaced ≡ w))
      ⊎ ((x.replaced ≡ 0) × (¬ Meets news x) × (y.replaced ≡ 0))

-- one of these has these names and this mark
abbrev pub IsNew : List Version → List Name → Bool → Type 0
IsNew news names absent = (x : Version) × Contains news x × (x.names ≡ names) × (x.absent ≡ absent)

-- k is what the cell after cell c makes of g
pub record IsNext (r : Run) (c : ℕ) (g k : Graph) : Type 0 where
  -- one record more; what it misses is told by the graph alone
  pub cell : CellRecord
  pub cells : k.cells ≡ g.cells ++ cell ∷ []
  pub is_record : IsRecordWith (IsUnwritten r g c) r g c cell
  -- the versions that it wrote after the older ones
  pub olds : List Version
  pub news : List Version
  pub versions : k.versions ≡ olds ++ news
  pub aged : AllZip (IsAged (suc c) news) g.versions olds
  pub ascend : Ascends (λ x y. TextBelow (least_name x.names) (least_name y.names)) news
  pub left : (x : Version) → Contains news x → (x.writer ≡ suc c) × (x.replaced ≡ 0) × IsLeft r c x × IsWeighed r (suc c) x
  pub parts : (x : Name) → HasValue (r.state (suc c)) x
      → (names : List Name) × Contains names x × IsPart (r.state (suc c)) names × (IsKept r c names ⊎ IsNew news names false)
  pub deleted : (x : Name) → IsDeleted r c x → IsNew news (x ∷ []) true
