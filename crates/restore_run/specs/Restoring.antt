-- What a checkpoint is restored to, or why it isn't.
use Rattle.std.specs.Prelude.{◌≡◌, ◌≢◌, ℕ, ◌-◌, ◌==◌, cond, List, [], ◌∷◌, Contains, length, Ok, Err}
use Rattle.py_heap.specs.declared.state.State.{State}
use Rattle.py_machine.specs.Runs.{Name}
use Rattle.py_meaning.specs.Cells.{Asks}
use Rattle.graph_model.specs.declared.graph.CellRecord.{CellRecord}
use Rattle.graph_model.specs.declared.graph.Graph.{Graph}
use Rattle.graph_model.specs.Graphs.{CellAt}
use Rattle.graph_model.specs.Faults.{Never, IsGraph}
use Rattle.graph_model.specs.Plans.{NamesOf, IsFeasible}
use Rattle.linked_parts.specs.Parts.{ArePartsOf}
use Rattle.every_history.specs.Reading.{read}
use Rattle.part_bytes.specs.declared.part.PartValue.{PartValue}
use Rattle.checkpoint_reader.specs.declared.checkpoint.Checkpoint.{Checkpoint}
use Rattle.checkpoint_reader.specs.declared.fault.CheckpointFault.TheVariants as checkpoint
use Rattle.checkpoint_reader.specs.Fields.{fields}
use Rattle.checkpoint_reader.specs.Judging.{IsAnswer}
use Rattle.checkpoint_reader.specs.Numbered.{IsRestorable}
use Rattle.replay_laws.specs.Walks.{done_again, Walked}
use Rattle.replay_laws.specs.Tidied.{IsTidied}
use Rattle.state_judge.specs.declared.judging.Disagreement.TheVariants as judge
use Rattle.state_judge.specs.Agreeing.{IsUnlike, IsLoose, IsStateJudged}
use Rattle.restore_run.specs.declared.restored.Restored.{Restored}
use Rattle.restore_run.specs.declared.fault.RestoreFault.{RestoreFault}
use Rattle.restore_run.specs.declared.fault.RestoreFault.TheVariants as fault
use Rattle.part_loader.specs.Loading.{state_of}

-- a checkpoint that was read: its graph has no fault, its plan is feasible, and it can be restored
pub record IsSoundCheckpoint (k : Checkpoint) : Type 0 where
  pub graph : IsGraph k.graph
  pub names : NamesOf k.graph k.plan
  pub feasible : IsFeasible k.graph k.plan
  pub restorable : IsRestorable k

-- ---- the walk over a checkpoint

abbrev pub no_part : PartValue
no_part = record { names = []; values = []; objects = [] }

-- the part beside this number
abbrev pub part_for : List ℕ → List PartValue → ℕ → PartValue
part_for [] parts v = no_part
part_for (n ∷ ns) [] v = no_part
part_for (n ∷ ns) (part ∷ parts) v = cond (n == v) part (part_for ns parts v)

-- the copy of each version that the plan copies: its part, as a state of its own
abbrev pub copies : Checkpoint → ℕ → State
copies k v = state_of (part_for k.plan.copied k.parts v)

-- from the empty state over the first c cells to t: the cells that the plan runs again were run, and what it copies was loaded
abbrev pub IsWalked : Checkpoint → ℕ → State → Type 0
IsWalked k c t = Walked read (copies k) k.graph k.plan c t

-- s is the state in which the walk ends, with the checkpoint's count and meter, and only with the objects that names reach,
-- numbered anew
pub record IsRestoredFrom (k : Checkpoint) (s : State) : Type 0 where
  pub last : State
  pub walked : IsWalked k (length k.graph.cells) last
  pub tidied : IsTidied (record last { count = k.count; meter = k.meter }) s

-- the walk comes to cell c, which the plan runs again and which asks for a draw
pub record DrawsAgain (k : Checkpoint) (c : ℕ) : Type 0 where
  pub before : State
  pub walked : IsWalked k (c - 1) before
  pub rerun : Contains k.plan.rerun c
  pub cell : CellRecord
  pub at : CellAt k.graph c cell
  pub asks : Asks (done_again read cell before)

-- want of memory, or the first disagreement of the state with the graph
abbrev pub IsEndFault : Graph → State → RestoreFault → Type 0
IsEndFault g s fault.OutOfMemory = Unit {0}
IsEndFault g s (fault.Checkpoint f) = ⊥
IsEndFault g s (fault.DrewAgain c) = ⊥
IsEndFault g s (fault.Unlike v) = IsStateJudged g s (judge.Unlike v)
IsEndFault g s (fault.Loose name) = IsStateJudged g s (judge.Loose name)

-- a session on this host with this state and this graph, which agree
pub record IsFinished (s : State) (on : ℕ) (g : Graph) (r : Restored) : Type 0 where
  pub state : r.kernel.state ≡ s
  pub host : r.kernel.host ≡ on
  pub graph : r.history.graph ≡ g
  pub parts : ArePartsOf s r.history.parts
  pub objects : r.objects ≡ length s.heap
  pub agrees : Never (IsUnlike g s)
  pub none_loose : (name : Name) → ¬ IsLoose g s name

-- ---- the answer

-- the bytes are this checkpoint
abbrev pub AreCheckpoint : List ℕ → Checkpoint → Type 0
AreCheckpoint bytes k = IsAnswer (fields bytes 0) (Ok k)

-- what the bytes of a checkpoint are restored to on this host: its graph agrees with the state
pub record IsRestoredOn (bytes : List ℕ) (on : ℕ) (r : Restored) : Type 0 where
  pub checkpoint : Checkpoint
  pub are : AreCheckpoint bytes checkpoint
  pub state : IsRestoredFrom checkpoint r.kernel.state
  pub agrees : Never (IsUnlike checkpoint.graph r.kernel.state)
  pub none_loose : (name : Name) → ¬ IsLoose checkpoint.graph r.kernel.state name
  pub host : r.kernel.host ≡ on
  pub graph : r.history.graph ≡ checkpoint.graph
  pub parts : ArePartsOf r.kernel.state r.history.parts
  pub objects : r.objects ≡ length r.kernel.state.heap

-- the bytes are a checkpoint whose walk ends in s
abbrev pub AreOf : List ℕ → (Checkpoint → State → Type 0) → Type 0
AreOf bytes P = (k : Checkpoint) × (s : State) × AreCheckpoint bytes k × IsRestoredFrom k s × P k s

-- the first of these: the bytes are no checkpoint; a cell draws again; a version isn't as it says; a name is loose
abbrev pub IsRestoreFault : List ℕ → RestoreFault → Type 0
IsRestoreFault bytes fault.OutOfMemory = ⊥
IsRestoreFault bytes (fault.Checkpoint f) = (f ≢ checkpoint.OutOfMemory) × IsAnswer (fields bytes 0) (Err f)
IsRestoreFault bytes (fault.DrewAgain c) = (k : Checkpoint) × AreCheckpoint bytes k × DrawsAgain k c
IsRestoreFault bytes (fault.Unlike v) = AreOf bytes (λ k s. IsStateJudged k.graph s (judge.Unlike v))
IsRestoreFault bytes (fault.Loose name) = AreOf bytes (λ k s. IsStateJudged k.graph s (judge.Loose name))
