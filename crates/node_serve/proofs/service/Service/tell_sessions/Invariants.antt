use Rattle.std.proofs.Common.{◌≡◌, true, length}
use Rattle.node_serve.specs.Sent.{wire}
use Rattle.node_serve.specs.Service.{Serves}
use Rattle.node_serve.proofs.service.Service.tell_sessions.Given as goal

abbrev pub invariant-loop-at : goal.invariant-loop-at
invariant-loop-at g l =
    Serves true g.N.Name.hosts g.N.Name.queues (wire (g.L.Link.line l.initial.link) (g.L.Link.faults l.initial.link) l.initial.is_cut) (wire (g.L.Link.line l.link) (g.L.Link.faults l.link) l.is_cut)
    l.initial.self.framer l.initial.self.node l.initial.self.told l.self.framer l.self.node l.self.told
    × (l.self.framer ≡ l.initial.self.framer) × (length l.self.node.desk ≡ length l.initial.self.node.desk)
