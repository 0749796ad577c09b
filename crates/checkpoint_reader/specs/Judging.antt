-- What the answer is once the fields are read: the checkpoint, or the first thing that is wrong with its graph, or else with its plan.
use Rattle.std.specs.Prelude.{◌≡◌, ℕ, Option, Some, None, Result, Ok, Err}
use Rattle.graph_model.specs.declared.graph.Graph.{Graph}
use Rattle.graph_model.specs.declared.plan.Plan.{Plan}
use Rattle.graph_model.specs.Faults.{IsFault, IsGraph}
use Rattle.graph_model.specs.Plans.{NamesOf, IsFeasible}
use Rattle.plan_model.specs.declared.feasibility.Item.{Item}
use Rattle.plan_model.specs.declared.feasibility.Item.TheVariants as the_item
use Rattle.plan_model.specs.Failing.{IsFirstFailing}
use Rattle.checkpoint_reader.specs.declared.fields.Fields.{Fields}
use Rattle.checkpoint_reader.specs.declared.checkpoint.Checkpoint.{Checkpoint}
use Rattle.checkpoint_reader.specs.declared.fault.CheckpointFault.{CheckpointFault}
use Rattle.checkpoint_reader.specs.declared.fault.CheckpointFault.TheVariants.{OutOfMemory, BadMagic, BadVersion, Cut, Part, PlanDisagrees, Trailing, BadField}
use Rattle.checkpoint_reader.specs.declared.fault.CheckpointFault.TheVariants as fault
use Rattle.checkpoint_reader.specs.Reads.{Answer}

abbrev pub graph_of : Fields → Graph
graph_of read = record { cells = read.cells.records; versions = read.versions.records }

abbrev pub plan_of : Fields → Plan
plan_of read = record { copied = read.versions.copied; rerun = read.cells.rerun }

abbrev pub checkpoint_of : Fields → Checkpoint
checkpoint_of read = record { count = read.count; meter = read.meter; graph = graph_of read; plan = plan_of read; parts = read.versions.parts }

-- the first copied version that isn't as its part, or else the first version or cell at which the plan isn't feasible
abbrev pub IsDisagreement : Option ℕ → Graph → Plan → Item → Type 0
IsDisagreement (Some v) g p item = item ≡ the_item.Version v
IsDisagreement None g p item = IsFirstFailing g p item

abbrev pub IsCheckpointJudged : Fields → Result Checkpoint CheckpointFault → Type 0
IsCheckpointJudged read (Ok checkpoint) = (checkpoint ≡ checkpoint_of read) × IsGraph (graph_of read) × (read.versions.unlike ≡ None) × NamesOf (graph_of read) (plan_of read) × IsFeasible (graph_of read) (plan_of read)
IsCheckpointJudged read (Err (fault.Graph f)) = IsFault (graph_of read) f
IsCheckpointJudged read (Err (PlanDisagrees item)) = IsGraph (graph_of read) × IsDisagreement read.versions.unlike (graph_of read) (plan_of read) item
IsCheckpointJudged read (Err OutOfMemory) = ⊥
IsCheckpointJudged read (Err BadMagic) = ⊥
IsCheckpointJudged read (Err (BadVersion n)) = ⊥
IsCheckpointJudged read (Err (Cut at)) = ⊥
IsCheckpointJudged read (Err (Part at f)) = ⊥
IsCheckpointJudged read (Err (Trailing at)) = ⊥
IsCheckpointJudged read (Err (BadField at)) = ⊥

-- the first fault of the fields; if there is none, what they are judged to be
abbrev pub IsAnswer : Answer Fields → Result Checkpoint CheckpointFault → Type 0
IsAnswer (Ok read) result = IsCheckpointJudged read.0 result
IsAnswer (Err f) result = result ≡ Err f
