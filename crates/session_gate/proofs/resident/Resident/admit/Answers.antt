use Rattle.std.proofs.Common.{sym, subst}
use Rattle.session_gate.specs.Facts.{Holds, IsWhole}
use Rattle.session_gate.proofs.Popping.{resident_admitted}
use Rattle.session_gate.proofs.resident.Resident.admit.Goals as goal

pub invariant_of-self : goal.invariant_of-self
invariant_of-self g c = let e = g.E.Engine in let i = c.self.inside in
    resident_admitted e.meaning (e.stands_for i.engine) (e.host_of i.engine) (g.F.Feed.seen i.feed) i.hosts i.dead i.count i.kernel i.journal.entries i.outlet i.ends _ c.args.request _ c.self.invariant c.admit.ensures

pub admit-requires-clause-whole : goal.admit-requires-clause-whole
admit-requires-clause-whole g c = subst (λ (h : Holds g.row.E.Denot g.row.F.Denot). IsWhole h) (sym c.self.view_is) c.requires.whole
