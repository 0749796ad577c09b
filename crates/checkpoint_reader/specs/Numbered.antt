-- What is known of what was read: the numbers of some of it ascend, the meter and the cells are within their bounds, deleted names have
-- no handle and no size, and each version that the plan copies has a part that was read for it.
use Rattle.std.specs.Prelude.{◌≡◌, ℕ, ◌-◌, ◌<◌, ◌≤◌, true, false, List, All, Contains, length, Some, None, Ok, slice_get, ◌^◌}
use Rattle.std.specs.List.{AllZip}
use Rattle.graph_model.specs.declared.graph.Version.{Version}
use Rattle.graph_model.specs.Faults.{Ascends}
use Rattle.checkpoint_bytes.specs.Sessions.{IsWithinBounds}
use Rattle.part_bytes.specs.declared.part.PartValue.{PartValue}
use Rattle.checkpoint_reader.specs.declared.forms.Texts.{Texts}
use Rattle.checkpoint_reader.specs.PartReading.{part_read2}
use Rattle.checkpoint_reader.specs.declared.checkpoint.Checkpoint.{Checkpoint}
use Rattle.checkpoint_reader.specs.declared.fields.Cells.{Cells}
use Rattle.checkpoint_reader.specs.declared.fields.Versions.{Versions}
use Rattle.checkpoint_reader.specs.declared.fields.Fields.{Fields}
use Rattle.checkpoint_reader.specs.Fields.{is_unlike}

-- numbers from 1 to n, ascending
pub record AreNumbers (n : ℕ) (numbers : List ℕ) : Type 0 where
  pub ascend : Ascends (λ m n. m < n) numbers
  pub within : (m : ℕ) → Contains numbers m → (0 < m) × (m ≤ n)

-- n cells
pub record AreCells (n : ℕ) (cells : Cells) : Type 0 where
  pub size : length cells.records ≡ n
  pub rerun : AreNumbers n cells.rerun
  pub bounds : All IsWithinBounds cells.records

-- a name that was deleted has no handle and no size
abbrev pub IsEmptyIfAbsent : Version → Type 0
IsEmptyIfAbsent x = x.absent ≡ true → (x.handle ≡ false) × (x.size ≡ 0)

-- version v of these holds at the end
abbrev pub IsKeptActive : List Version → ℕ → Type 0
IsKeptActive records v = (x : Version) × (slice_get records (v - 1) ≡ Some x) × (x.replaced ≡ 0)

-- the part was read from some bytes for this version, in either version of the format, and is as the version says: so its text in version 1
-- is as long as the version's size
pub record IsCopyOf (x : Version) (part : PartValue) : Type 0 where
  pub texts : Texts
  pub known : ℕ
  pub bytes : List ℕ
  pub size : ℕ
  pub later : ℕ
  pub was_read : part_read2 texts known bytes ≡ Ok (part, size, later)
  pub agrees : is_unlike x part ≡ false

-- it was read for version v of these
abbrev pub IsCopyAt : List Version → ℕ → PartValue → Type 0
IsCopyAt records v part = (x : Version) × (slice_get records (v - 1) ≡ Some x) × IsCopyOf x part

-- n versions; those that are copied hold at the end and have their parts, unless one is unlike its part
pub record AreVersions (n : ℕ) (versions : Versions) : Type 0 where
  pub size : length versions.records ≡ n
  pub copied : AreNumbers n versions.copied
  pub absent : All IsEmptyIfAbsent versions.records
  pub active : versions.unlike ≡ None → (v : ℕ) → Contains versions.copied v → IsKeptActive versions.records v
  pub copies : versions.unlike ≡ None → AllZip (IsCopyAt versions.records) versions.copied versions.parts

-- a checkpoint that was read can be restored: its meter and its cells are within their bounds, its deleted names have no handle and no
-- size, and each version that its plan copies has its part
pub record IsRestorable (k : Checkpoint) : Type 0 where
  pub meter : k.meter ≤ 16777216
  pub bounds : All IsWithinBounds k.graph.cells
  pub absent : All IsEmptyIfAbsent k.graph.versions
  pub copies : AllZip (IsCopyAt k.graph.versions) k.plan.copied k.parts

pub record AreFields (read : Fields) : Type 0 where
  pub meter : read.meter ≤ 16777216
  pub cells : AreCells (length read.cells.records) read.cells
  pub versions : AreVersions (length read.versions.records) read.versions
  pub few_cells : length read.cells.records < 2 ^ 32
  pub few_versions : length read.versions.records < 2 ^ 32
