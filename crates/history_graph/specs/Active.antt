-- The versions of a graph that hold, by their numbers.
use Rattle.std.specs.Prelude.{ℕ, ◌<◌, ◌↔◌, List, Option, None, Some, Contains}
use Rattle.graph_model.specs.declared.graph.Version.{Version}
use Rattle.graph_model.specs.declared.graph.Graph.{Graph}
use Rattle.graph_model.specs.Graphs.{IsActive}
use Rattle.graph_model.specs.Faults.{Ascends}

-- the version of that number holds
abbrev pub Holds : Graph → ℕ → Type 0
Holds g v = (x : Version) × IsActive g v x

-- they are the numbers of the versions that hold, ascending
pub record AreActive (g : Graph) (active : List ℕ) : Type 0 where
  pub ascends : Ascends (λ m n. m < n) active
  pub holds : (v : ℕ) → Contains active v ↔ Holds g v

-- if they are known, they are those numbers
abbrev pub AreNoted : Graph → Option (List ℕ) → Type 0
AreNoted g None = Unit {0}
AreNoted g (Some active) = AreActive g active

-- of the numbers they are those that are such, ascending
pub record AreThose (IsSuch : ℕ → Type 0) (among found : List ℕ) : Type 0 where
  pub ascends : Ascends (λ m n. m < n) found
  pub those : (v : ℕ) → Contains found v ↔ (Contains among v × IsSuch v)
