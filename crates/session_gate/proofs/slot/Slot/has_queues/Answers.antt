use Rattle.std.proofs.Common.{◌≡◌, true, Some, slice_get, subst}
use Rattle.session_gate.specs.declared.slot.Custody.{Custody}
use Rattle.session_gate.specs.Custodies.{is_of, HasQueues}
use Rattle.session_gate.proofs.Keeping.{queues_here}
use Rattle.session_gate.proofs.slot.Slot.has_queues.Goals as goal

pub returns : goal.returns
returns g c = let all = g.N.Name.queues in let n = c.args.number in
    subst (λ (s : Custody g.row.E.Denot g.row.F.Denot). is_of s n ≡ true → HasQueues (λ q. slice_get all n ≡ Some q) s) c.self.view_is
    (λ same. queues_here g.N.Name.hosts all g.N.Name.gives g.F.Feed.seen n c.self.inside.state c.self.invariant same)
