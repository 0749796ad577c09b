use Rattle.std.proofs.Common.{◌≡◌, sym, ap, ◌∙◌, refl, subst, []}
use Rattle.session_core.specs.declared.entry.Entry.TheVariants.{Adopted}
use Rattle.session_core.specs.Legal.{arriving, progress_of}
use Rattle.session_core.proofs.Progressing.{progress_more}
use Rattle.session_gate.specs.Facts.{Away}
use Rattle.session_gate.proofs.Noting.{answered_more, settled_now}
use Rattle.session_gate.proofs.Going.{may_adopt, arriving_room}
use Rattle.session_gate.proofs.parcel.Parcel.adopt.Goals as goal

pub adopt-requires-clause-spare : goal.adopt-requires-clause-spare
adopt-requires-clause-spare g c = let i = c.self.inside in
    arriving_room (progress_of i.resident.entries).phase i.again i.to i.resident.spare (subst (λ (p : Away g.row.E.Denot g.row.F.Denot). (progress_of p.held.entries).phase ≡ arriving p.again p.to) (sym c.self.view_is) c.requires.arriving) c.self.invariant.phase

pub adopt-requires-clause-may : goal.adopt-requires-clause-may
adopt-requires-clause-may g c = let i = c.self.inside in let v = c.self.view_is in
    may_adopt g.E.Engine.meaning i.resident.hosts (progress_of i.resident.entries) (progress_of i.resident.entries).phase i.again i.from i.to c.args.objects (record { bytes = i.bytes; certified = i.certified })
    (subst (λ (p : Away g.row.E.Denot g.row.F.Denot). (progress_of p.held.entries).phase ≡ arriving p.again p.to) (sym v) c.requires.arriving) c.self.invariant.from c.self.invariant.packs
    (subst (λ (p : Away g.row.E.Denot g.row.F.Denot). g.E.Engine.meaning.HasObjects (progress_of p.held.entries).served c.args.objects) (sym v) c.requires.objects)

pub adopt-requires-clause-still : goal.adopt-requires-clause-still
adopt-requires-clause-still g c = (refl, refl, refl)

pub adopt-requires-clause-owes : goal.adopt-requires-clause-owes
adopt-requires-clause-owes g c = let i = c.self.inside in
    answered_more i.resident.kernel i.resident.entries (Adopted i.from i.to i.again i.certified c.args.objects) i.resident.ends [] refl c.self.invariant.owes refl

pub adopt-requires-clause-stands : goal.adopt-requires-clause-stands
adopt-requires-clause-stands g c = let v = c.self.view_is in
    (subst (λ (p : Away g.row.E.Denot g.row.F.Denot). g.E.Engine.stands_for c.args.engine (progress_of p.held.entries).served) (sym v) c.requires.stands, c.requires.host ∙ ap (λ (p : Away g.row.E.Denot g.row.F.Denot). p.to) (sym v))

pub invariant_of-result : goal.invariant_of-result
invariant_of-result g c = let i = c.self.inside in settled_now i.resident.entries _ (Adopted i.from i.to i.again i.certified c.args.objects) c.adopt.ensures.noted.1 refl

pub returns-clause-owner : goal.returns-clause-owner
returns-clause-owner g c = let i = c.self.inside in
    ap (λ es. (progress_of es).owner) c.adopt.ensures.noted.1 ∙ ap (λ p. p.owner) (progress_more i.resident.entries (Adopted i.from i.to i.again i.certified c.args.objects))
    ∙ ap (λ (p : Away g.row.E.Denot g.row.F.Denot). p.to) c.self.view_is
