use Rattle.std.proofs.Common.{◌≡◌, ◌<◌, length, true, false}
use Rattle.jupyter_frames.specs.Framing.{IsBegun}
use Rattle.node_serve.specs.Sent.{wire}
use Rattle.node_serve.specs.Service.{Serves}
use Rattle.node_serve.proofs.service.Service.turns.Given as goal

abbrev pub invariant-loop : goal.invariant-loop
invariant-loop g l =
    (goal.iterator-loop g).can_next l.iterator' × (goal.iterator-loop g).is_finite l.iterator'
    × Serves true g.N.Name.hosts g.N.Name.queues (wire (g.L.Link.line l.initial.link) (g.L.Link.faults l.initial.link) l.initial.is_cut) (wire (g.L.Link.line l.link) (g.L.Link.faults l.link) l.is_cut)
    l.initial.self.framer l.initial.self.node l.initial.self.told l.self.framer l.self.node l.self.told
    × IsBegun l.self.framer.bytes × (0 < length l.room) × (l.is_cut ≡ false)
