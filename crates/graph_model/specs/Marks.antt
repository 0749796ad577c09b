-- Marks of cells, and the writers of replaced versions.
use Rattle.std.specs.Prelude.{◌≡◌, ◌≢◌, ℕ, Bool, false, List, Contains, IsTrue, slice_index_or}
use Rattle.graph_model.specs.declared.graph.Version.{Version}
use Rattle.graph_model.specs.declared.graph.Graph.{Graph}
use Rattle.graph_model.specs.Graphs.{VersionAt}

-- the list has a mark at this number
abbrev pub IsMarked : List Bool → ℕ → Type 0
IsMarked marks c = IsTrue (slice_index_or marks c false)

-- version v is replaced, and cell w wrote it
abbrev pub WroteOld : Graph → ℕ → ℕ → Type 0
WroteOld g v w = (x : Version) × VersionAt g v x × (x.replaced ≢ 0) × (x.writer ≡ w)

-- cell w wrote a version of these that is replaced
abbrev pub WroteOldOf : Graph → List ℕ → ℕ → Type 0
WroteOldOf g reads w = (v : ℕ) × Contains reads v × WroteOld g v w
