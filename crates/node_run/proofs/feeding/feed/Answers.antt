use Rattle.node_run.proofs.Serving.{handed_on}
use Rattle.node_run.proofs.feeding.feed.Goals as goal

pub returns-in-Ok-clause-told : goal.returns-in-Ok-clause-told
returns-in-Ok-clause-told g c =
    let t = c.in-Ok.ensures.told in (
      t.0,
      t.1,
      handed_on c.args.hosts t.0 g.N.Name.queues c.in-Ok.handed.desk c.handed_in.result.sessions.items c.in-Ok.handed.errors c.handed_in.result.errors c.in-Ok.handed.broken c.handed_in.result.broken c.in-Ok.end c.handed_in.result.end
          (g.S.Source.left c.take_in_at.new.source) c.handed_in.ensures.sessions c.handed_in.ensures.rest.0 c.handed_in.ensures.rest.1 c.handed_in.ensures.rest.2 t.2,
    )
