use Rattle.graph_model.specs.Faults.{NamesAreBad}
use Rattle.graph_model.proofs.Lookups.{of_version}
use Rattle.graph_model.proofs.graph.Graph.has_bad_names.Goals as goal

pub returns-in-Some : goal.returns-in-Some
returns-in-Some c = (
  λ t. (c.in-Some.version.now, c.in-Some.ensures, c.names_are_bad.ensures.0 t),
  λ h. c.names_are_bad.ensures.1 (of_version NamesAreBad c.args.self.now c.args.v _ h.0 c.in-Some.ensures h.1 h.2),
)
