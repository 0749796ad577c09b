use Rattle.node_serve.proofs.Doors.{served_told}
use Rattle.node_serve.proofs.links.is_served.Goals as goal

pub returns-in-Ok : goal.returns-in-Ok
returns-in-Ok g c = record {
  served = λ yes.
      let told = c.in-Ok.ensures.told in
      served_told g.E.Engine.meaning (g.L.Link.line c.args.link.now) (g.L.Link.line c.serve_link.new.link) (g.L.Link.faults c.args.link.now) (g.L.Link.faults c.serve_link.new.link)
      c.in-Ok.report.end c.in-Ok.report.errors c.in-Ok.report.runs.items told.0 told.1 told.2 told.3 c.in-Ok.ensures.fault;
}
