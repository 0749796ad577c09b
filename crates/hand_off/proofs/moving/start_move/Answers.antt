use Rattle.std.proofs.Common.{refl}
use Rattle.session_core.specs.declared.entry.Entry.TheVariants as entry
use Rattle.session_gate.specs.Facts.{owner_of}
use Rattle.hand_off.proofs.Leaving.{left, ended_as, sealed_as}
use Rattle.hand_off.proofs.moving.start_move.Goals as goal

pub returns-in-Refuse-clause-started : goal.returns-in-Refuse-clause-started
returns-in-Refuse-clause-started g c = ((c.in-Refuse.reason, c.in-Refuse.ensures, c.refuse-lease.ensures.noted), c.refuse-lease.ensures.owes)

pub returns-in-Refuse-clause-does : goal.returns-in-Refuse-clause-does
returns-in-Refuse-clause-does g c = let l = c.args.lease in let e = entry.Refused (owner_of l) c.args.request c.in-Refuse.reason in
    (e, ended_as g.E.Engine.meaning l c.refuse-lease.result e c.args.request c.refuse-lease.ensures.noted c.is_legal.ensures.settled c.is_legal-in-Refuse.ensures.legal refl)

pub returns-in-Stay-clause-does : goal.returns-in-Stay-clause-does
returns-in-Stay-clause-does g c = let l = c.args.lease in let e = entry.Resumed (owner_of l) c.args.request in
    (e, ended_as g.E.Engine.meaning l c.resume-lease.result e c.args.request c.resume-lease.ensures.noted c.is_legal.ensures.settled c.is_legal-in-Stay.ensures.legal refl)

pub returns-in-Go-clause-started : goal.returns-in-Go-clause-started
returns-in-Go-clause-started g c = let p = c.depart-parcel in
    left g.E.Engine.meaning c.args.lease c.args.request c.in-Go.again c.in-Go.to c.in-Go.packed p.result c.in-Go.ensures p.ensures.noted p.ensures.to p.ensures.from p.ensures.kept p.ensures.sealed p.ensures.owes

pub returns-in-Go-clause-does : goal.returns-in-Go-clause-does
returns-in-Go-clause-does g c = let p = c.depart-parcel in
    sealed_as g.E.Engine.meaning c.args.lease c.args.request c.in-Go.to p.result p.ensures.noted p.ensures.to c.is_legal-in-Go.ensures
