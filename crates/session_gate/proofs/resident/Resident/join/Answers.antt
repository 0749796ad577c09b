use Rattle.std.proofs.Common.{refl, sym, subst}
use Rattle.session_queues.specs.Ends.{Held, gathered}
use Rattle.session_gate.specs.Facts.{IsResident}
use Rattle.session_gate.proofs.Popping.{resident_same}
use Rattle.session_gate.proofs.resident.Resident.join.Goals as goal

pub invariant_of-self : goal.invariant_of-self
invariant_of-self g c = let e = g.E.Engine in let i = c.self.inside in
    subst (λ (ends : Held). IsResident e.meaning (e.stands_for i.engine) (e.host_of i.engine) (g.F.Feed.seen i.feed) i.hosts i.dead i.count i.kernel i.journal.entries ends i.outlet) (sym c.join.ensures)
    (resident_same e.meaning (e.stands_for i.engine) (e.host_of i.engine) (g.F.Feed.seen i.feed) i.hosts i.dead i.count i.kernel i.journal.entries i.outlet i.ends (gathered i.ends c.args.pass) c.self.invariant refl refl refl)
