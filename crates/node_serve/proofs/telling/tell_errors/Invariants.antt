use Rattle.std.proofs.Common.{true}
use Rattle.node_serve.specs.Sent.{wire}
use Rattle.node_serve.proofs.Passing.{ErrorsTold}
use Rattle.node_serve.proofs.telling.tell_errors.Given as goal

abbrev pub invariant-loop-at : goal.invariant-loop-at
invariant-loop-at g l =
    ErrorsTold true (wire (g.L.Link.line l.initial.link) (g.L.Link.faults l.initial.link) l.initial.is_cut) (wire (g.L.Link.line l.link) (g.L.Link.faults l.link) l.is_cut) l.errors l.told l.at
