use Rattle.std.proofs.Common.{◌≡◌, sym, ap, ◌∙◌, refl, subst, []}
use Rattle.session_core.specs.declared.entry.Entry.TheVariants.{Resumed}
use Rattle.session_core.specs.Legal.{arriving, progress_of, asked_by}
use Rattle.session_core.proofs.Progressing.{progress_more}
use Rattle.session_gate.specs.Facts.{Away}
use Rattle.session_gate.proofs.Noting.{answered_more, settled_now}
use Rattle.session_gate.proofs.Going.{may_stay, arriving_room}
use Rattle.session_gate.proofs.parcel.Parcel.resume.Goals as goal

pub note-requires-clause-spare : goal.note-requires-clause-spare
note-requires-clause-spare g c = let i = c.self.inside in
    arriving_room (progress_of i.resident.entries).phase i.again i.to i.resident.spare (subst (λ (p : Away g.row.E.Denot g.row.F.Denot). (progress_of p.held.entries).phase ≡ arriving p.again p.to) (sym c.self.view_is) c.requires) c.self.invariant.phase

pub note-requires-clause-may : goal.note-requires-clause-may
note-requires-clause-may g c = let i = c.self.inside in
    may_stay g.E.Engine.meaning i.resident.hosts (progress_of i.resident.entries) (progress_of i.resident.entries).phase i.again i.to i.from
    (subst (λ (p : Away g.row.E.Denot g.row.F.Denot). (progress_of p.held.entries).phase ≡ arriving p.again p.to) (sym c.self.view_is) c.requires) c.self.invariant.from

pub note-requires-clause-quiet : goal.note-requires-clause-quiet
note-requires-clause-quiet g c = (refl, refl, refl, refl)

pub note-requires-clause-owes : goal.note-requires-clause-owes
note-requires-clause-owes g c = let i = c.self.inside in
    answered_more i.resident.kernel i.resident.entries (Resumed i.from i.again) i.resident.ends [] refl c.self.invariant.owes
    (ap (λ z. asked_by z (Resumed i.from i.again)) (subst (λ (p : Away g.row.E.Denot g.row.F.Denot). (progress_of p.held.entries).phase ≡ arriving p.again p.to) (sym c.self.view_is) c.requires))

pub invariant_of-result : goal.invariant_of-result
invariant_of-result g c = settled_now c.self.inside.resident.entries _ (Resumed c.self.inside.from c.self.inside.again) c.note.ensures.noted.2 refl

pub returns-clause-owner : goal.returns-clause-owner
returns-clause-owner g c = let i = c.self.inside in
    ap (λ es. (progress_of es).owner) c.note.ensures.noted.2 ∙ ap (λ p. p.owner) (progress_more i.resident.entries (Resumed i.from i.again)) ∙ sym c.self.invariant.from
    ∙ ap (λ (p : Away g.row.E.Denot g.row.F.Denot). p.from) c.self.view_is
