use Rattle.std.proofs.Common.{◌≡◌, ◌≤◌, sym, ap, ◌∙◌, refl, subst, ◌∷◌, [], arith}
use Rattle.session_core.specs.declared.entry.Entry.TheVariants.{Sealed}
use Rattle.session_core.specs.declared.request.Request.{Request}
use Rattle.session_core.specs.Legal.{sealed, progress_of, after}
use Rattle.session_core.specs.Stepping.{GoesBy}
use Rattle.session_core.proofs.Progressing.{progress_more}
use Rattle.session_core.proofs.Going.{goes_sealed, goes_alive}
use Rattle.session_gate.specs.Answered.{IsAnswered}
use Rattle.session_gate.specs.Facts.{Holds, HasNoted, owner_of, IsPackFor}
use Rattle.session_gate.proofs.Noting.{answered_more}
use Rattle.session_gate.proofs.Going.{packs, sealed_way}
use Rattle.session_gate.proofs.lease.Lease.depart.Goals as goal

pub note-requires-clause-may : goal.note-requires-clause-may
note-requires-clause-may g c = let r = c.self.inside.resident in (
  c.self.invariant,
  c.owner-host.ensures,
  goes_sealed g.E.Engine.meaning r.hosts (progress_of r.entries) c.args.packed c.args.to c.args.request.ask
      (subst (λ (h : Holds g.row.E.Denot g.row.F.Denot). GoesBy g.E.Engine.meaning h.hosts (progress_of h.entries) c.args.packed c.args.to c.args.request.ask) (sym c.self.view_is) c.requires.packed),
)

pub note-requires-clause-quiet : goal.note-requires-clause-quiet
note-requires-clause-quiet g c = (refl, refl, refl, refl)

pub note-requires-clause-owes : goal.note-requires-clause-owes
note-requires-clause-owes g c = let r = c.self.inside.resident in
    answered_more r.kernel r.entries (Sealed c.owner-host.result c.args.request c.args.to) r.ends (c.args.request ∷ []) refl (subst (λ (h : Holds g.row.E.Denot g.row.F.Denot). IsAnswered h.kernel h.entries h.ends (c.args.request ∷ [])) (sym c.self.view_is) c.requires.owes) (refl)

pub invariant_of-result : goal.invariant_of-result
invariant_of-result g c =
    let m = g.E.Engine.meaning in
    let r = c.self.inside.resident in
    let n = c.note.ensures.noted in
    let e = Sealed c.owner-host.result c.args.request c.args.to in
    let now : progress_of c.note.new.self.entries ≡ after (progress_of r.entries) e = ap progress_of n.2 ∙ progress_more r.entries e in
    let goes = subst (λ (h : Holds g.row.E.Denot g.row.F.Denot). GoesBy g.E.Engine.meaning h.hosts (progress_of h.entries) c.args.packed c.args.to c.args.request.ask) (sym c.self.view_is) c.requires.packed in
    let room : 3 ≤ r.spare = subst (λ (h : Holds g.row.E.Denot g.row.F.Denot). 3 ≤ h.spare) (sym c.self.view_is) c.requires.spare in
    let one = n.3 in record {
      phase = sealed_way r.entries c.note.new.self.entries c.owner-host.result c.args.to c.note.new.self.spare c.args.request c.args.again n.2 c.requires.again (omega arith);
      from = c.owner-host.ensures ∙ sym (ap (λ p. p.owner) now);
      alive = ap (λ p. p.dead) now ∙ goes_alive m r.hosts (progress_of r.entries) c.args.packed c.args.to c.args.request.ask goes;
      owes = c.note.ensures.owes;
      packs = subst (λ (x : Request). IsPackFor m (progress_of c.note.new.self.entries).served c.args.packed x.ask) (sym c.requires.again)
          (subst (λ s. IsPackFor m s c.args.packed c.args.request.ask) (sym (ap (λ p. p.served) now)) (packs m r.hosts (progress_of r.entries) c.args.packed c.args.to c.args.request.ask goes));
    }

pub returns-clause-noted : goal.returns-clause-noted
returns-clause-noted g c = subst (λ (h : Holds g.row.E.Denot g.row.F.Denot). HasNoted h c.note.new.self (Sealed (owner_of h) c.args.request c.args.to)) c.self.view_is
    (subst (λ n. HasNoted c.self.inside.resident c.note.new.self (Sealed n c.args.request c.args.to)) c.owner-host.ensures c.note.ensures.noted)

pub returns-clause-from : goal.returns-clause-from
returns-clause-from g c = c.owner-host.ensures ∙ ap (λ (h : Holds g.row.E.Denot g.row.F.Denot). owner_of h) c.self.view_is

pub returns-clause-sealed : goal.returns-clause-sealed
returns-clause-sealed g c = let n = c.note.ensures.noted in
    ap (λ es. (progress_of es).phase) n.2 ∙ ap (λ p. p.phase) (progress_more c.self.inside.resident.entries (Sealed c.owner-host.result c.args.request c.args.to)) ∙ ap (λ r. sealed r c.args.to) (sym c.requires.again)
