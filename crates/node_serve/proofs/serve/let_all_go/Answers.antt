use Rattle.node_serve.specs.Sent.{wire}
use Rattle.node_serve.proofs.Ending.{stopped_left}
use Rattle.node_serve.proofs.serve.let_all_go.Goals as goal

pub returns : goal.returns
returns g c = record {
  stopped = λ start left.
      stopped_left g.E.Engine.meaning g.N.Name.hosts g.N.Name.gives g.N.Name.queues start (wire (g.L.Link.line c.args.link.now) (g.L.Link.faults c.args.link.now) c.args.is_cut.now) (wire (g.L.Link.line c.close_all-closings.new.link) (g.L.Link.faults c.close_all-closings.new.link) c.close_all-closings.new.is_cut) c.args.sessions.items c.close_all-closings.result.suffices c.close_all-closings.result.runs.items left
      c.close_all-closings.ensures;
}
