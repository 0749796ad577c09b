use Rattle.std.proofs.Common.{[]}
use Rattle.node_serve.specs.Sent.{left_of}
use Rattle.node_serve.proofs.Sendings.{went_none}
use Rattle.node_serve.proofs.Ending.{nothing_served}
use Rattle.node_serve.proofs.serve.serve_link.Goals as goal

pub returns-in-Err-clause-told : goal.returns-in-Err-clause-told
returns-in-Err-clause-told g c = ([], [], went_none (g.L.Link.line c.args.link.now), nothing_served g.E.Engine.meaning c.args.hosts (g.Q.Feeds.gives c.args.feeds.now) (left_of (g.L.Link.line c.args.link.now)))
