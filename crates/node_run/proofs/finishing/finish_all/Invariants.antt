use Rattle.node_run.proofs.Serving.{ServedSoFar}
use Rattle.node_run.proofs.finishing.finish_all.Given as goal

abbrev pub invariant-loop-session : goal.invariant-loop-session
invariant-loop-session g l = ServedSoFar g.E.Engine.meaning g.N.Name.hosts g.N.Name.gives g.N.Name.queues l.fn.sessions.items l.session-iterator.rest.items l.cells.items l.runs.items
