-- What contracts see of a history.
use Rattle.graph_model.specs.declared.graph.Graph.{Graph}
use Rattle.linked_parts.specs.declared.parts.Parts.{Parts}

-- the graph of the cells so far, and the parts of the state
pub record HistoryView : Type 0 where
  pub graph : Graph
  pub parts : Parts
