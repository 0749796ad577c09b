use Rattle.std.proofs.Common.{◌∙◌}
use Rattle.node_serve.proofs.Serving.{fed}
use Rattle.node_serve.proofs.serve.fed_by.Goals as goal

pub returns : goal.returns
returns g c = record {
  fed = λ start now served ends is_end.
      fed g.N.Name.hosts g.N.Name.queues start now c.args.service.framer c.args.service.node c.args.service.told c.into_sessions.result.items c.taken_in-desk.result.errors c.taken_in-desk.result.broken c.args.end
      (c.into_sessions.ensures.sessions ∙ c.taken_in-desk.ensures.desk) c.taken_in-desk.ensures.errors c.taken_in-desk.ensures.broken c.into_sessions.ensures.seated c.into_sessions.ensures.readable served ends is_end;
}
