use Rattle.node_serve.proofs.Doors.{served_closed}
use Rattle.node_serve.proofs.links.serve_one.Goals as goal

pub returns : goal.returns
returns g c = record {
  served = λ yes.
      served_closed g.E.Engine.meaning (g.L.Link.line c.args.link.now) (g.L.Link.line c.is_served-served.new.link) (g.L.Link.line c.close.new.self) (g.L.Link.faults c.args.link.now) (g.L.Link.faults c.is_served-served.new.link) (g.L.Link.faults c.close.new.self)
      (c.is_served-served.ensures.served yes) c.close.ensures.line c.close.ensures.faults;
}
