use Rattle.std.proofs.Common.{◌≡◌, sym, ◌++◌, ◌∷◌, [], subst}
use Rattle.session_core.specs.Legal.{progress_of, after, MayCome}
use Rattle.session_gate.specs.Answered.{IsAnswered}
use Rattle.session_gate.specs.Facts.{Holds}
use Rattle.session_gate.specs.Slots.{IsStill}
use Rattle.session_gate.proofs.Noting.{noted_by}
use Rattle.session_gate.proofs.resident.Resident.adopt.Goals as goal

pub invariant_of-self : goal.invariant_of-self
invariant_of-self g c = let e = g.E.Engine in let v = c.self.view_is in let i = c.self.inside in let r = c.requires in
    let still = subst (λ (h : Holds g.row.E.Denot g.row.F.Denot). IsStill (progress_of h.entries) c.args.entry) (sym v) r.still in
    noted_by e.meaning i.hosts (e.stands_for c.args.engine) (e.stands_for i.engine) (e.host_of c.args.engine) (e.host_of i.engine) (g.F.Feed.seen i.feed) i.dead i.count i.kernel i.journal.entries c.push.new.self.entries i.ends i.outlet c.args.entry c.self.invariant c.push.ensures.entries
    (subst (λ (h : Holds g.row.E.Denot g.row.F.Denot). MayCome e.meaning h.hosts (progress_of h.entries) c.args.entry) (sym v) r.may) still.0 still.1 still.2
    (λ _. subst (λ (h : Holds g.row.E.Denot g.row.F.Denot). e.stands_for c.args.engine (progress_of h.entries).served × (e.host_of c.args.engine ≡ (after (progress_of h.entries) c.args.entry).owner)) (sym v) r.stands)
    (subst (λ (h : Holds g.row.E.Denot g.row.F.Denot). IsAnswered h.kernel (h.entries ++ c.args.entry ∷ []) h.ends []) (sym v) r.owes)

pub returns-clause-owes : goal.returns-clause-owes
returns-clause-owes g c = subst (λ es. IsAnswered c.self.inside.kernel es c.self.inside.ends []) (sym c.push.ensures.entries)
    (subst (λ (h : Holds g.row.E.Denot g.row.F.Denot). IsAnswered h.kernel (h.entries ++ c.args.entry ∷ []) h.ends []) (sym c.self.view_is) c.requires.owes)
