-- Cells and versions, and which cells a version needs.
use Rattle.std.specs.Prelude.{◌≡◌, ◌≢◌, ℕ, ◌-◌, ◌<◌, true, Contains, Some, slice_get}
use Rattle.graph_model.specs.declared.graph.CellRecord.{CellRecord}
use Rattle.graph_model.specs.declared.graph.Version.{Version}
use Rattle.graph_model.specs.declared.graph.Graph.{Graph}

-- x is the record of cell c
abbrev pub CellAt : Graph → ℕ → CellRecord → Type 0
CellAt g c x = (0 < c) × (slice_get g.cells (c - 1) ≡ Some x)

-- x is version v
abbrev pub VersionAt : Graph → ℕ → Version → Type 0
VersionAt g v x = (0 < v) × (slice_get g.versions (v - 1) ≡ Some x)

-- version v, which is x, holds at the end
abbrev pub IsActive : Graph → ℕ → Version → Type 0
IsActive g v x = VersionAt g v x × (x.replaced ≡ 0)

-- cell c read a version that is replaced, and w wrote that version
abbrev pub ReadsOldOf : Graph → ℕ → ℕ → Type 0
ReadsOldOf g c w = (cell : CellRecord) × (v : ℕ) × (x : Version) × CellAt g c cell × Contains cell.reads v × VersionAt g v x × (x.replaced ≢ 0) × (x.writer ≡ w)

-- the need of version v: the least set of cells that holds the writer of v and, with each cell, the writers of the
-- replaced versions that it read
pub data Needs (g : Graph) (v : ℕ) : ℕ → Type 0 where
  writer : (x : Version) → VersionAt g v x → Needs g v x.writer
  before : (c w : ℕ) → Needs g v c → ReadsOldOf g c w → Needs g v w

-- version v holds a handle and can't be copied, and cell c, which it needs, drew and can't run again
pub record IsStuck (g : Graph) (v c : ℕ) : Type 0 where
  pub version : Version
  pub active : IsActive g v version
  pub handle : version.handle ≡ true
  pub cell : CellRecord
  pub needed : Needs g v c
  pub at : CellAt g c cell
  pub drew : cell.drew ≡ true

-- the stuck pair with the least version, and of that version the least cell
pub record IsFirstStuck (g : Graph) (v c : ℕ) : Type 0 where
  pub stuck : IsStuck g v c
  pub least_version : (u d : ℕ) → u < v → ¬ IsStuck g u d
  pub least_cell : (d : ℕ) → d < c → ¬ IsStuck g v d
