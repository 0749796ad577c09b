use Rattle.std.proofs.Common.{◌≡◌, sym, ap, ◌∙◌, refl, subst, [], arith}
use Rattle.session_core.specs.declared.entry.Entry.TheVariants.{Moved}
use Rattle.session_core.specs.Legal.{sealed, progress_of, after}
use Rattle.session_core.proofs.Progressing.{progress_more}
use Rattle.session_gate.specs.Facts.{Away, IsPackFor}
use Rattle.session_gate.proofs.Noting.{answered_more}
use Rattle.session_gate.proofs.Going.{may_move, moved_way, sealed_room}
use Rattle.session_gate.proofs.parcel.Parcel.arrive.Goals as goal

pub note-requires-clause-spare : goal.note-requires-clause-spare
note-requires-clause-spare g c = let i = c.self.inside in
    let phase = subst (λ (p : Away g.row.E.Denot g.row.F.Denot). (progress_of p.held.entries).phase ≡ sealed p.again p.to) (sym c.self.view_is) c.requires in
    let room = sealed_room (progress_of i.resident.entries).phase i.again i.to i.resident.spare phase c.self.invariant.phase in omega arith

pub note-requires-clause-may : goal.note-requires-clause-may
note-requires-clause-may g c = let i = c.self.inside in
    may_move g.E.Engine.meaning i.resident.hosts (progress_of i.resident.entries).phase i.again i.to (subst (λ (p : Away g.row.E.Denot g.row.F.Denot). (progress_of p.held.entries).phase ≡ sealed p.again p.to) (sym c.self.view_is) c.requires)

pub note-requires-clause-quiet : goal.note-requires-clause-quiet
note-requires-clause-quiet g c = (refl, refl, refl, refl)

pub note-requires-clause-owes : goal.note-requires-clause-owes
note-requires-clause-owes g c = let i = c.self.inside in answered_more i.resident.kernel i.resident.entries (Moved i.to) i.resident.ends [] refl c.self.invariant.owes refl

pub invariant_of-result : goal.invariant_of-result
invariant_of-result g c =
    let i = c.self.inside in
    let r = i.resident in
    let n = c.note.ensures.noted in
    let phase = subst (λ (p : Away g.row.E.Denot g.row.F.Denot). (progress_of p.held.entries).phase ≡ sealed p.again p.to) (sym c.self.view_is) c.requires in
    let now : progress_of c.note.new.self.entries ≡ after (progress_of r.entries) (Moved i.to) = ap progress_of n.2 ∙ progress_more r.entries (Moved i.to) in record {
      phase = moved_way r.entries c.note.new.self.entries i.to r.spare c.note.new.self.spare i.again n.2 phase c.self.invariant.phase n.3;
      from = c.self.invariant.from ∙ sym (ap (λ p. p.owner) now);
      alive = ap (λ p. p.dead) now ∙ c.self.invariant.alive;
      owes = c.note.ensures.owes;
      packs = subst (λ s. IsPackFor g.E.Engine.meaning s (record { bytes = i.bytes; certified = i.certified }) i.again.ask) (sym (ap (λ p. p.served) now)) c.self.invariant.packs;
    }
