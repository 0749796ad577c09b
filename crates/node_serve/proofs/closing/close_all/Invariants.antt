use Rattle.node_serve.specs.Sent.{wire}
use Rattle.node_serve.proofs.Closings.{ClosedSoFar}
use Rattle.node_serve.proofs.closing.close_all.Given as goal

abbrev pub invariant-loop-session : goal.invariant-loop-session
invariant-loop-session g l =
    ClosedSoFar g.E.Engine.meaning g.N.Name.hosts g.N.Name.gives g.N.Name.queues (wire (g.L.Link.line l.initial.link) (g.L.Link.faults l.initial.link) l.initial.is_cut) (wire (g.L.Link.line l.link) (g.L.Link.faults l.link) l.is_cut)
    l.fn.sessions.items l.session-iterator.rest.items l.cells.items l.fn.suffices l.closings.suffices l.closings.runs.items
