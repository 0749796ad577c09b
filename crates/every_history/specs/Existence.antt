-- That a name is in a part, that a cell makes a graph, and that a run has a history.
use Rattle.std.specs.Prelude.{ℕ, ◌<◌, ◌^◌, List, Contains, length}
use Rattle.py_heap.specs.declared.state.State.{State}
use Rattle.py_machine.specs.Runs.{Name}
use Rattle.graph_model.specs.declared.graph.Graph.{Graph}
use Rattle.graph_model.specs.Faults.{IsGraph}
use Rattle.linked_parts.specs.Parts.{IsPart}
use Rattle.run_graph.specs.Histories.{Run, IsHistory}
use Rattle.run_graph.specs.Soundness.{TreeReader, IsSound}
use Rattle.run_graph.specs.Growing.{IsNext}

-- the name is in a part of the state
abbrev pub IsInAPart : State → Name → Type 0
IsInAPart s x = (names : List Name) × IsPart s names × Contains names x

-- there is what the cell after cell c makes of the graph
abbrev pub HasNext : Run → ℕ → Graph → Type 0
HasNext r c g = (k : Graph) × IsNext r c g k

-- some graph is the history of the run
abbrev pub HasHistory : Run → Type 0
HasHistory r = (g : Graph) × IsHistory r g

-- some graph is the history of the run and is sound, and with fewer than 2^32 cells and versions it has no fault
pub record HasSoundHistory (read : TreeReader) (r : Run) : Type 0 where
  pub graph : Graph
  pub history : IsHistory r graph
  pub sound : IsSound read r graph
  pub passes : r.cells < 2 ^ 32 → length graph.versions < 2 ^ 32 → IsGraph graph
