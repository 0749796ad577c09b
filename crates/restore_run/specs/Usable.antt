-- A session that may go on, whether or not it stands for cells.
use Rattle.std.specs.Prelude.{All}
use Rattle.py_heap.specs.declared.state.State.{State}
use Rattle.reader_laws.specs.Valid.{IsValidState}
use Rattle.checkpoint_bytes.specs.Sessions.{IsWithinBounds}
use Rattle.history_graph.specs.declared.history.History.{History}
use Rattle.history_graph.specs.Usable.{IsUsableHistory}

-- its state is valid, its history may go on from it, and each cell is within the bounds that a checkpoint asks for
pub record IsUsableSession (s : State) (h : History) : Type 0 where
  pub valid : IsValidState s
  pub history : IsUsableHistory s h
  pub cells : All IsWithinBounds h.graph.cells
