use Rattle.std.proofs.Common.{sym, subst}
use Rattle.session_gate.specs.Custodies.{IsInOrder}
use Rattle.session_gate.specs.declared.slot.Custody.{Custody}
use Rattle.session_gate.proofs.Arriving.{arrived}
use Rattle.session_gate.proofs.slot.Slot.collect.Goals as goal

pub returns-then-parcel-host-clause-ours : goal.returns-then-parcel-host-clause-ours
returns-then-parcel-host-clause-ours g c =
    arrived g.N.Name.hosts g.N.Name.queues g.N.Name.gives g.F.Feed.seen c.in-Sealed.parcel c.arrive.result (subst (λ (s : Custody g.row.E.Denot g.row.F.Denot). IsInOrder g.N.Name.hosts g.N.Name.queues g.N.Name.gives g.F.Feed.seen s) (sym c.in-Sealed.ensures.value) c.self.invariant) c.arrive.ensures.noted c.arrive.ensures.kept
