use Rattle.node_serve.proofs.Serving.{left_at}
use Rattle.node_serve.proofs.serve.left_by.Goals as goal

pub returns : goal.returns
returns g c = record {
  left = λ start now s. left_at g.N.Name.hosts g.N.Name.queues start now c.args.service.node c.into_sessions.result.items c.into_sessions.ensures.sessions c.into_sessions.ensures.seated c.into_sessions.ensures.readable s;
}
