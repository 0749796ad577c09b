-- Why a session isn't packed.
use Rattle.std.specs.Prelude.{◌≡◌, ℕ}
use Rattle.graph_model.specs.declared.graph.Graph.{Graph}
use Rattle.graph_model.specs.declared.graph.Version.{Version}
use Rattle.graph_model.specs.Graphs.{VersionAt}
use Rattle.session_core.specs.declared.engine.PackFault.{PackFault}
use Rattle.session_core.specs.declared.engine.PackFault.TheVariants as pack

-- this version is stuck with this cell; or memory ran out for its names
abbrev pub IsStuckFault : Graph → ℕ → ℕ → PackFault → Type 0
IsStuckFault g version cell (pack.Stuck v c names) = (v ≡ version) × (c ≡ cell) × ((x : Version) × VersionAt g version x × (names ≡ x.names))
IsStuckFault g version cell pack.OutOfMemory = Unit {0}
IsStuckFault g version cell (pack.BadWeights fault) = ⊥
