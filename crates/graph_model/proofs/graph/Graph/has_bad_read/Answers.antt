use Rattle.graph_model.specs.Faults.{RecordIsBad}
use Rattle.graph_model.proofs.Lookups.{of_cell}
use Rattle.graph_model.proofs.graph.Graph.has_bad_read.Goals as goal

pub returns-in-Some : goal.returns-in-Some
returns-in-Some c = (
  λ t. (c.in-Some.cell.now, c.in-Some.ensures, c.record_is_bad.ensures.0 t),
  λ h. c.record_is_bad.ensures.1 (of_cell (RecordIsBad c.args.self.now c.args.c) c.args.self.now c.args.c _ h.0 c.in-Some.ensures h.1 h.2),
)
