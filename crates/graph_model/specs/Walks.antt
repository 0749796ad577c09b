-- An index of names, and the versions that it shows to be replaced otherwise than they say.
use Rattle.std.specs.Prelude.{◌≢◌, ℕ, ◌<◌, ◌⊎◌, List, Option, None, Some, Contains}
use Rattle.std.specs.Ordering.{nat_cmp}
use Rattle.std.specs.Cmp.Lexicographic.{slice_cmp}
use Rattle.std.specs.FinMap as finite
use Rattle.graph_model.specs.declared.graph.Version.{Version}
use Rattle.graph_model.specs.declared.graph.Graph.{Graph}
use Rattle.graph_model.specs.Graphs.{VersionAt}
use Rattle.graph_model.specs.Faults.{HasName, IsNextWith}

-- from a name to the number of a version
abbrev pub NameIndex : Type 0
NameIndex = finite.FinMap (slice_cmp nat_cmp) ℕ

-- what is known of a name: no version after v has it, or the first one that does
abbrev pub Indexes : Graph → ℕ → List ℕ → Option ℕ → Type 0
Indexes g v name None = (u : ℕ) → v < u → ¬ HasName g name u
Indexes g v name (Some u) = IsNextWith g v name u

-- the index has each name of the versions after v, with the first one
abbrev pub IsIndex : Graph → ℕ → NameIndex → Type 0
IsIndex g v index = (name : List ℕ) → Indexes g v name (finite.get index name)

-- by this name, version v, which is x, isn't replaced by the next version with it, or is replaced though there is none
abbrev pub ClashesBy : Graph → ℕ → Version → List ℕ → Type 0
ClashesBy g v x name = ((u : ℕ) × (y : Version) × IsNextWith g v name u × VersionAt g u y × (y.writer ≢ x.replaced))
    ⊎ ((x.replaced ≢ 0) × ((u : ℕ) → v < u → ¬ HasName g name u))

abbrev pub SomeClashes : Graph → ℕ → Version → Type 0
SomeClashes g v x = (name : List ℕ) × Contains x.names name × ClashesBy g v x name

abbrev pub Clashes : Graph → ℕ → Type 0
Clashes g v = (x : Version) × VersionAt g v x × SomeClashes g v x

-- the least version that clashes, of those after v
abbrev pub IsLeastClash : Graph → ℕ → Option ℕ → Type 0
IsLeastClash g v None = (m : ℕ) → v < m → ¬ Clashes g m
IsLeastClash g v (Some u) = (v < u) × Clashes g u × ((m : ℕ) → v < m → m < u → ¬ Clashes g m)
