use Rattle.node_serve.specs.Sent.{wire}
use Rattle.node_serve.proofs.Serving.{served_till}
use Rattle.node_serve.proofs.service.Service.attend.Goals as goal

pub returns-in-Err-clause-serves : goal.returns-in-Err-clause-serves
returns-in-Err-clause-serves g c = λ start s.
    served_till g.N.Name.hosts g.N.Name.queues start (wire (g.L.Link.line c.args.link.now) (g.L.Link.faults c.args.link.now) c.args.is_cut.now) c.args.self.now.framer c.args.self.now.node c.args.self.now.told s
