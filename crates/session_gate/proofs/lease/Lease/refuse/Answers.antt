use Rattle.std.proofs.Common.{sym, refl, subst, ◌∷◌, []}
use Rattle.session_core.specs.declared.entry.Entry.TheVariants.{Refused}
use Rattle.session_core.specs.Asks.{IsMove}
use Rattle.session_core.specs.Legal.{progress_of, IsReason}
use Rattle.session_gate.specs.Answered.{IsAnswered}
use Rattle.session_gate.specs.Facts.{Holds, HasNoted, owner_of}
use Rattle.session_gate.proofs.Noting.{answered_more, settled_more}
use Rattle.session_gate.proofs.lease.Lease.refuse.Goals as goal

pub note-requires-clause-may : goal.note-requires-clause-may
note-requires-clause-may g c = let r = c.self.inside.resident in let v = c.self.view_is in
    (c.self.invariant, c.owner-host.ensures, subst (λ (h : Holds g.row.E.Denot g.row.F.Denot). IsMove (λ to weights. IsReason g.E.Engine.meaning h.hosts (progress_of h.entries) to weights c.args.reason) c.args.request.ask) (sym v) c.requires.reason)

pub note-requires-clause-quiet : goal.note-requires-clause-quiet
note-requires-clause-quiet g c = (refl, refl, refl, refl)

pub note-requires-clause-owes : goal.note-requires-clause-owes
note-requires-clause-owes g c = let r = c.self.inside.resident in
    answered_more r.kernel r.entries (Refused c.owner-host.result c.args.request c.args.reason) r.ends (c.args.request ∷ []) refl (subst (λ (h : Holds g.row.E.Denot g.row.F.Denot). IsAnswered h.kernel h.entries h.ends (c.args.request ∷ [])) (sym c.self.view_is) c.requires.owes) (refl)

pub invariant_of-result : goal.invariant_of-result
invariant_of-result g c = settled_more c.self.inside.resident.entries _ (Refused c.owner-host.result c.args.request c.args.reason) c.note.ensures.noted.2 c.self.invariant refl

pub returns-clause-noted : goal.returns-clause-noted
returns-clause-noted g c = subst (λ (h : Holds g.row.E.Denot g.row.F.Denot). HasNoted h c.note.new.self (Refused (owner_of h) c.args.request c.args.reason)) c.self.view_is
    (subst (λ n. HasNoted c.self.inside.resident c.note.new.self (Refused n c.args.request c.args.reason)) c.owner-host.ensures c.note.ensures.noted)
