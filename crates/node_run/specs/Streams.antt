-- What a run on a stream did.
use Rattle.std.specs.Prelude.{◌≡◌, ℕ, ◌⊎◌, List, [], ◌++◌, Option, Some, None}
use Rattle.std.specs.List.{AllByRecursion}
use Rattle.nb_outside.specs.Streams.{Adds}
use Rattle.jupyter_frames.specs.Framing.{IsBody, IsRest, stream}
use Rattle.session_core.specs.declared.entry.Entry.{Entry}
use Rattle.session_core.specs.Meanings.{Meaning}
use Rattle.node_intake.specs.Intake.{Node}
use Rattle.reply_frames.specs.declared.node.NodeError.{NodeError}
use Rattle.node_run.specs.declared.end.RunEnd.{RunEnd}
use Rattle.node_run.specs.Journals.{Answers, ServedSession, AreRuns, AreJournals}
use Rattle.node_run.specs.Frames.{written, AddsFront, AddsBefore}
use Rattle.node_run.specs.Ends.{status_of, node_at, EndsAt}

-- this node is what is taken in of these bytes by a run that ended so and left this in the source
pub record IsNodeOf (hosts : ℕ) (end : RunEnd) (bytes : List ℕ) (left : Option (List ℕ)) (node : Node) : Type 0 where
  pub bodies : List (List ℕ)
  pub rest : List ℕ
  pub are_bodies : AllByRecursion IsBody bodies
  pub is_rest : IsRest rest
  pub is_stream : bytes ≡ stream bodies rest
  pub is_node : node ≡ node_at end hosts bodies rest
  pub ends : EndsAt end left rest

-- these errors, and these sessions that were served, are those of that node
pub record HasRun (meaning : Meaning) (hosts : ℕ) (gives : Answers) (end : RunEnd) (bytes : List ℕ) (left : Option (List ℕ)) (errors : List NodeError) (runs : List ServedSession) : Type 0 where
  pub node : Node
  pub is_node : IsNodeOf hosts end bytes left node
  pub errors_are : errors ≡ node.errors
  pub are_runs : AreRuns meaning hosts gives node.sessions runs

-- of that node and of journals of its sessions the frames were written, as this says
pub record Writes (meaning : Meaning) (hosts : ℕ) (gives : Answers) (end : RunEnd) (bytes : List ℕ) (left : Option (List ℕ)) (IsAdded : List ℕ → Type 0) : Type 0 where
  pub node : Node
  pub journals : List (List Entry)
  pub is_node : IsNodeOf hosts end bytes left node
  pub are_journals : AreJournals meaning hosts gives node.sessions journals
  pub added : IsAdded (written node journals)

-- of that node and of journals of its sessions the frames were written that come before those of an error or of an entry
pub record Stops (meaning : Meaning) (hosts : ℕ) (gives : Answers) (end : RunEnd) (bytes : List ℕ) (left : Option (List ℕ)) (sink_old sink_new : Option (List ℕ)) : Type 0 where
  pub node : Node
  pub journals : List (List Entry)
  pub is_node : IsNodeOf hosts end bytes left node
  pub are_journals : AreJournals meaning hosts gives node.sessions journals
  pub added : AddsBefore sink_old sink_new node journals

-- What a run did that took these bytes of a source and left the rest in it, with feeds made with these answers. At each status the
-- reading ended where it did for a cause, and so no error of the node is left out.
pub record Streams (meaning : Meaning) (hosts : ℕ) (gives : Answers) (caused : RunEnd → Type 0) (status : ℕ) (taken left : List ℕ) (sink_old sink_new : Option (List ℕ)) : Type 0 where
  -- at 0, 2, 3 and 10 all was written
  pub whole : (end : RunEnd) → status ≡ status_of end → caused end × Writes meaning hosts gives end taken (Some left) (Adds sink_old sink_new)
  -- at 4 the first bytes of it
  pub cut : status ≡ 4 → (end : RunEnd) × caused end × Writes meaning hosts gives end taken (Some left) (AddsFront sink_old sink_new)
  -- at 5 memory ran out: at the frames of an error or of an entry, and those of all before it were written; or before all was served,
  -- and nothing was written
  pub short : status ≡ 5 → Adds sink_old sink_new [] ⊎ ((end : RunEnd) × caused end × Stops meaning hosts gives end taken (Some left) sink_old sink_new)

-- over a source that tells what it had and has left
abbrev pub StreamsTold : Meaning → ℕ → Answers → (RunEnd → Type 0) → ℕ → Option (List ℕ) → Option (List ℕ) → Option (List ℕ) → Option (List ℕ) → Type 0
StreamsTold meaning hosts gives caused status None source_new sink_old sink_new = source_new ≡ None
StreamsTold meaning hosts gives caused status (Some had) source_new sink_old sink_new =
    (taken : List ℕ) × (left : List ℕ) × (had ≡ taken ++ left) × (source_new ≡ Some left) × Streams meaning hosts gives caused status taken left sink_old sink_new

-- the statuses of a run
abbrev pub IsStatus : ℕ → Type 0
IsStatus status = ((end : RunEnd) × (status ≡ status_of end)) ⊎ ((status ≡ 4) ⊎ (status ≡ 5))
