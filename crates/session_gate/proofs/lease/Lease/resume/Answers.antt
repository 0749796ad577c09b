use Rattle.std.proofs.Common.{sym, ap, refl, subst, ◌∷◌, []}
use Rattle.session_core.specs.declared.entry.Entry.TheVariants.{Resumed}
use Rattle.session_core.specs.Asks.{IsMove}
use Rattle.session_core.specs.Legal.{progress_of, MayTry, if_settled}
use Rattle.session_gate.specs.Answered.{IsAnswered}
use Rattle.session_gate.specs.Facts.{Holds, HasNoted, owner_of}
use Rattle.session_gate.proofs.Noting.{answered_more, settled_more}
use Rattle.session_gate.proofs.Going.{may_resume}
use Rattle.session_gate.proofs.lease.Lease.resume.Goals as goal

pub note-requires-clause-may : goal.note-requires-clause-may
note-requires-clause-may g c = let r = c.self.inside.resident in let v = c.self.view_is in
    may_resume g.E.Engine.meaning r.hosts (progress_of r.entries) (progress_of r.entries).phase c.owner-host.result c.args.request c.self.invariant c.owner-host.ensures
    (subst (λ (h : Holds g.row.E.Denot g.row.F.Denot). IsMove (MayTry g.E.Engine.meaning h.hosts (progress_of h.entries)) c.args.request.ask) (sym v) c.requires.may)

pub note-requires-clause-quiet : goal.note-requires-clause-quiet
note-requires-clause-quiet g c = (refl, refl, refl, refl)

pub note-requires-clause-owes : goal.note-requires-clause-owes
note-requires-clause-owes g c = let r = c.self.inside.resident in
    answered_more r.kernel r.entries (Resumed c.owner-host.result c.args.request) r.ends (c.args.request ∷ []) refl (subst (λ (h : Holds g.row.E.Denot g.row.F.Denot). IsAnswered h.kernel h.entries h.ends (c.args.request ∷ [])) (sym c.self.view_is) c.requires.owes) (ap (λ z. if_settled z c.args.request) c.self.invariant)

pub invariant_of-result : goal.invariant_of-result
invariant_of-result g c = settled_more c.self.inside.resident.entries _ (Resumed c.owner-host.result c.args.request) c.note.ensures.noted.2 c.self.invariant (sym c.self.invariant)

pub returns-clause-noted : goal.returns-clause-noted
returns-clause-noted g c = subst (λ (h : Holds g.row.E.Denot g.row.F.Denot). HasNoted h c.note.new.self (Resumed (owner_of h) c.args.request)) c.self.view_is
    (subst (λ n. HasNoted c.self.inside.resident c.note.new.self (Resumed n c.args.request)) c.owner-host.ensures c.note.ensures.noted)
