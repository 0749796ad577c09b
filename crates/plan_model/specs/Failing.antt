-- The version or the cell at which a plan is not feasible.
use Rattle.std.specs.Prelude.{◌≡◌, ℕ, ◌⊎◌, true, List, Contains}
use Rattle.flow_model.specs.First.{IsFirst}
use Rattle.graph_model.specs.declared.graph.CellRecord.{CellRecord}
use Rattle.graph_model.specs.declared.graph.Version.{Version}
use Rattle.graph_model.specs.declared.graph.Graph.{Graph}
use Rattle.graph_model.specs.declared.plan.Plan.{Plan}
use Rattle.graph_model.specs.Graphs.{CellAt, VersionAt, ReadsOldOf}
use Rattle.graph_model.specs.Faults.{Never}
use Rattle.graph_model.specs.Marks.{WroteOld}
use Rattle.plan_model.specs.declared.feasibility.Item.{Item}
use Rattle.plan_model.specs.declared.feasibility.Item.TheVariants as item

-- an active version is neither copied nor is its writer run again
abbrev pub IsLost : Plan → ℕ → Version → Type 0
IsLost p v x = (x.replaced ≡ 0) × (¬ Contains p.copied v) × (¬ Contains p.rerun x.writer)

-- a version is copied and holds a handle
abbrev pub CopiesHandle : Plan → ℕ → Version → Type 0
CopiesHandle p v x = Contains p.copied v × (x.handle ≡ true)

-- version v is active and neither copied nor its writer run again, or it is copied and holds a handle
abbrev pub FailsVersion : Graph → Plan → ℕ → Type 0
FailsVersion g p v = (x : Version) × VersionAt g v x × (IsLost p v x ⊎ CopiesHandle p v x)

-- version v is replaced, and was written by a cell that isn't run again
abbrev pub LacksWriter : Graph → List ℕ → ℕ → Type 0
LacksWriter g rerun v = (w : ℕ) × WroteOld g v w × (¬ Contains rerun w)

abbrev pub LacksSomeWriter : Graph → List ℕ → List ℕ → Type 0
LacksSomeWriter g rerun reads = (v : ℕ) × Contains reads v × LacksWriter g rerun v

-- a cell that is run again lacks a writer of a replaced version that it read, or drew
abbrev pub RerunFails : Graph → List ℕ → CellRecord → Type 0
RerunFails g rerun x = LacksSomeWriter g rerun x.reads ⊎ (x.drew ≡ true)

-- cell c is run again, and a writer of a replaced version that it read isn't, or it drew
abbrev pub FailsCell : Graph → Plan → ℕ → Type 0
FailsCell g p c = (x : CellRecord) × CellAt g c x × Contains p.rerun c × (((w : ℕ) × ReadsOldOf g c w × (¬ Contains p.rerun w)) ⊎ (x.drew ≡ true))

-- the first item that fails: versions before cells, ascending
abbrev pub IsFirstFailing : Graph → Plan → Item → Type 0
IsFirstFailing g p (item.Version v) = IsFirst (FailsVersion g p) v
IsFirstFailing g p (item.Cell c) = Never (FailsVersion g p) × IsFirst (FailsCell g p) c
