use Rattle.std.proofs.Common.{◌≡◌, ◌+◌, true, take}
use Rattle.node_run.specs.Unsent.{frames_in}
use Rattle.node_serve.specs.Sent.{wire}
use Rattle.node_serve.proofs.Passing.{EntriesTold}
use Rattle.node_serve.proofs.telling.tell_rest.Given as goal

abbrev pub invariant-loop-at : goal.invariant-loop-at
invariant-loop-at g l =
    EntriesTold true (wire (g.L.Link.line l.initial.link) (g.L.Link.faults l.initial.link) l.initial.is_cut) (wire (g.L.Link.line l.link) (g.L.Link.faults l.link) l.is_cut) l.kernel l.entries l.place l.at
    × (l.running ≡ 1 + frames_in (take l.at l.entries))
