-- A history that may go on, whether or not it is one of a run.
use Rattle.py_heap.specs.declared.state.State.{State}
use Rattle.linked_parts.specs.Parts.{ArePartsOf}
use Rattle.checkpoint_bytes.specs.Sessions.{TellsOf}
use Rattle.history_graph.specs.declared.history.History.{History}

-- from this state: its graph has no fault, the versions that hold are the state's parts, with their handles and sizes, and its
-- parts are the state's
pub record IsUsableHistory (s : State) (h : History) : Type 0 where
  pub tells : TellsOf h.graph s
  pub parts : ArePartsOf s h.parts
