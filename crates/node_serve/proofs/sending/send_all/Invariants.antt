use Rattle.std.proofs.Common.{◌≤◌, length}
use Rattle.node_serve.specs.Sent.{SendsSoFar}
use Rattle.node_serve.proofs.sending.send_all.Given as goal

abbrev pub invariant-loop-rest : goal.invariant-loop-rest
invariant-loop-rest g l =
    SendsSoFar (g.L.Link.line l.initial.link) (g.L.Link.line l.link) l.bytes l.rest × (g.L.Link.faults l.initial.link ≤ g.L.Link.faults l.link)

abbrev pub decreases-loop-rest : goal.decreases-loop-rest
decreases-loop-rest g l = length l.rest
