use Rattle.std.proofs.Common.{◌≡◌, sym, subst, [], ◌∷◌, MatchOption}
use Rattle.session_queues.specs.Ends.{FoundNothing, looked_at_both, TookRequest}
use Rattle.session_gate.specs.Answered.{IsAnswered}
use Rattle.session_gate.specs.Facts.{Holds}
use Rattle.session_gate.proofs.Popping.{begun, resident_popped, popped_told}
use Rattle.session_gate.proofs.resident.Resident.pop.Goals as goal

pub pop-requires : goal.pop-requires
pop-requires g c = let i = c.self.inside in
    begun g.E.Engine.meaning i.hosts i.kernel i.journal.entries i.ends _ c.self.invariant.kept.legal c.self.invariant.answered.1

pub invariant_of-self : goal.invariant_of-self
invariant_of-self g c = let e = g.E.Engine in let i = c.self.inside in
    resident_popped e.meaning (e.stands_for i.engine) (e.host_of i.engine) (g.F.Feed.seen i.feed) i.hosts i.dead i.count i.kernel i.journal.entries i.outlet i.ends _ _ c.self.invariant
    (subst (λ (h : Holds g.row.E.Denot g.row.F.Denot). IsAnswered h.kernel h.entries h.ends []) (sym c.self.view_is) c.requires) c.pop.ensures

pub returns-clause-popped : goal.returns-clause-popped
returns-clause-popped g c = let i = c.self.inside in
    subst (λ (h : Holds g.row.E.Denot g.row.F.Denot). MatchOption c.pop.result ((c.pop.new.self ≡ looked_at_both h.ends) × FoundNothing h.ends) (λ x. TookRequest h.ends x c.pop.new.self × IsAnswered i.kernel i.journal.entries c.pop.new.self (x ∷ []))) c.self.view_is
    (popped_told i.kernel i.journal.entries i.ends c.pop.new.self c.pop.result (subst (λ (h : Holds g.row.E.Denot g.row.F.Denot). IsAnswered h.kernel h.entries h.ends []) (sym c.self.view_is) c.requires) c.pop.ensures)
