-- Where a walk is among the copied versions.
use Rattle.std.specs.Prelude.{◌≡◌, ℕ, List, ◌<◌, ◌≤◌, Some, length, slice_get}
use Rattle.graph_model.specs.declared.graph.Version.{Version}
use Rattle.graph_model.specs.Graphs.{VersionAt}
use Rattle.part_bytes.specs.declared.part.PartValue.{PartValue}
use Rattle.checkpoint_reader.specs.declared.checkpoint.Checkpoint.{Checkpoint}

-- x is the copied version at index i, and has number v
abbrev pub CopiedAt : Checkpoint → ℕ → ℕ → Version → Type 0
CopiedAt k i v x = (slice_get k.plan.copied i ≡ Some v) × VersionAt k.graph v x

-- P holds of the copied version at index i
abbrev pub OnCopiedAt : Checkpoint → ℕ → (ℕ → Version → Type 0) → Type 0
OnCopiedAt k i P = (v : ℕ) × (x : Version) × CopiedAt k i v x × P v x

-- after cell c: the copied versions before index `next` are of cells up to c, and the others of later ones
pub record IsBetween (k : Checkpoint) (c next : ℕ) : Type 0 where
  pub within : next ≤ length k.plan.copied
  pub before : (i v : ℕ) (x : Version) → i < next → CopiedAt k i v x → x.writer ≤ c
  pub after : (i v : ℕ) (x : Version) → next ≤ i → CopiedAt k i v x → c < x.writer

-- the parts from index `next` on are still those of the checkpoint
abbrev pub AreLeft : Checkpoint → ℕ → List PartValue → Type 0
AreLeft k next parts = (i : ℕ) → next ≤ i → slice_get parts i ≡ slice_get k.parts i
