-- Whether a state is as a history graph says: its parts are the versions that hold at the end.
use Rattle.std.specs.Prelude.{◌≡◌, ◌⊎◌, ◌↔◌, ℕ, true, false, Contains}
use Rattle.flow_model.specs.First.{IsFirst}
use Rattle.py_heap.specs.declared.state.State.{State}
use Rattle.py_machine.specs.Runs.{Name}
use Rattle.graph_model.specs.declared.graph.Version.{Version}
use Rattle.graph_model.specs.declared.graph.Graph.{Graph}
use Rattle.graph_model.specs.Graphs.{IsActive}
use Rattle.graph_model.specs.Faults.{TextBelow, Never}
use Rattle.linked_parts.specs.Parts.{HasValue, IsPart}
use Rattle.run_graph.specs.Parts.{HasHandle}
use Rattle.part_bytes.specs.Sizing.{size_of}
use Rattle.state_judge.specs.declared.judging.Disagreement.{Disagreement}
use Rattle.state_judge.specs.declared.judging.Disagreement.TheVariants.{OutOfMemory, Unlike, Loose}

-- the version's names are one part of the state, with a handle if the version says so, and of the version's size
pub record IsAsSaid (x : Version) (s : State) : Type 0 where
  pub part : IsPart s x.names
  pub handle : (x.handle ≡ true) ↔ HasHandle s x.names
  pub size : x.size ≡ size_of x.names s

-- an absent version's name has a value; or another version isn't as it says
abbrev pub Disagrees : Version → State → Type 0
Disagrees x s = ((x.absent ≡ true) × (name : Name) × Contains x.names name × HasValue s name) ⊎ ((x.absent ≡ false) × (¬ IsAsSaid x s))

-- version v holds at the end and isn't as it says
abbrev pub IsUnlike : Graph → State → ℕ → Type 0
IsUnlike g s v = (x : Version) × IsActive g v x × Disagrees x s

-- if the version is absent and holds at the end, it has no handle and no size
abbrev pub IsPlainIfAbsent : Version → Type 0
IsPlainIfAbsent x = x.replaced ≡ 0 → x.absent ≡ true → (x.handle ≡ false) × (x.size ≡ 0)

-- the name has a value, and no version that holds at the end has the name
abbrev pub IsLoose : Graph → State → Name → Type 0
IsLoose g s name = HasValue s name × ((v : ℕ) (x : Version) → IsActive g v x → ¬ Contains x.names name)

-- the least such name
abbrev pub IsFirstLoose : Graph → State → Name → Type 0
IsFirstLoose g s name = IsLoose g s name × ((other : Name) → IsLoose g s other → ¬ TextBelow other name)

-- want of memory; or the first version that isn't as it says; or, if there is none, the least loose name
abbrev pub IsStateJudged : Graph → State → Disagreement → Type 0
IsStateJudged g s OutOfMemory = Unit {0}
IsStateJudged g s (Unlike v) = IsFirst (IsUnlike g s) v
IsStateJudged g s (Loose name) = Never (IsUnlike g s) × IsFirstLoose g s name
