-- What a cell reads and misses, by its marks and the versions that hold as it begins.
use Rattle.std.specs.Prelude.{◌≡◌, ℕ, ◌<◌, ◌↔◌, Bool, ◌&&◌, ◌||◌, IsTrue, nat_lt, List, [], ◌∷◌, ◌++◌, Contains, length}
use Rattle.py_machine.specs.declared.marks.Marks.{Marks}
use Rattle.py_machine.specs.Marked.{Name, has_member}
use Rattle.graph_model.specs.declared.graph.CellRecord.{CellRecord}
use Rattle.graph_model.specs.declared.graph.Version.{Version}
use Rattle.graph_model.specs.declared.graph.Graph.{Graph}
use Rattle.graph_model.specs.Graphs.{VersionAt, IsActive}
use Rattle.graph_model.specs.Faults.{TextBelow, Ascends}
use Rattle.history_graph.specs.Sets.{Names, Has}

-- the name was looked up; or it was bound, and is one of many
abbrev pub is_read_by : Marks → Bool → Name → Bool
is_read_by marks many name = has_member marks.looked name || (many && has_member marks.bound name)

-- by one of its names the cell reads a version with these, if it holds
abbrev pub AreTouched : Marks → List Name → Type 0
AreTouched marks names = (name : Name) × Contains names name × IsTrue (is_read_by marks (nat_lt 1 (length names)) name)

-- it reads the version
abbrev pub IsTouched : Marks → Version → Type 0
IsTouched marks x = (x.replaced ≡ 0) × AreTouched marks x.names

abbrev pub Reads : Graph → Marks → ℕ → Type 0
Reads g marks v = (x : Version) × VersionAt g v x × IsTouched marks x

-- one of the versions that hold has the name
abbrev pub IsHeld : Graph → Name → Type 0
IsHeld g name = (v : ℕ) × (x : Version) × IsActive g v x × Contains x.names name

-- one of the versions of these numbers holds and has the name
abbrev pub IsHeldAmong : Graph → List ℕ → Name → Type 0
IsHeldAmong g among name = (v : ℕ) × (x : Version) × Contains among v × IsActive g v x × Contains x.names name

-- the names that were looked up and that such a version has
abbrev pub AreHeldAmong : Graph → Marks → List ℕ → Names → Type 0
AreHeldAmong g marks among held = (name : Name) → Has held name ↔ (IsHeldAmong g among name × Has marks.looked name)

-- the names that were looked up and that a version that holds has
abbrev pub AreHeld : Graph → Marks → Names → Type 0
AreHeld g marks held = (name : Name) → Has held name ↔ (IsHeld g name × Has marks.looked name)

-- it was looked up, and no version that holds has it
abbrev pub Misses : Graph → Marks → Name → Type 0
Misses g marks name = Has marks.looked name × (¬ IsHeld g name)

-- the record of a cell
pub record IsRecordOf (g : Graph) (text : List ℕ) (units taken : ℕ) (marks : Marks) (x : CellRecord) : Type 0 where
  pub code : x.code ≡ text
  pub meter : x.meter ≡ units
  pub steps : x.steps ≡ taken
  pub drew : x.drew ≡ marks.drew
  pub reads_ascend : Ascends (λ m n. m < n) x.reads
  pub reads : (v : ℕ) → Contains x.reads v ↔ Reads g marks v
  pub missing_ascends : Ascends TextBelow x.missing
  pub missing : (name : Name) → Contains x.missing name ↔ Misses g marks name

-- k has the cells of g and then this one's record
abbrev pub Records : Graph → List ℕ → ℕ → ℕ → Marks → Graph → Type 0
Records g text units taken marks k = (x : CellRecord) × (k.cells ≡ g.cells ++ x ∷ []) × IsRecordOf g text units taken marks x
