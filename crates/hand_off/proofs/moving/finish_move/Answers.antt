use Rattle.std.proofs.Common.{◌≡◌, inl, inr, sym, subst}
use Rattle.session_core.specs.declared.entry.Entry.TheVariants as entry
use Rattle.session_core.specs.Legal.{progress_of}
use Rattle.hand_off.proofs.Leaving.{adopted_as}
use Rattle.hand_off.proofs.moving.finish_move.Goals as goal

pub returns-in-Ok-clause-ended : goal.returns-in-Ok-clause-ended
returns-in-Ok-clause-ended g c =
    let a = c.adopt-lease.ensures in
    let e = sym a.engine in
    let made = c.in-Ok.ensures in inl (record {
      objects = c.in-Ok.objects;
      all = made.objects;
      entries = a.entries;
      image = subst (λ x. g.E.Engine.is_image x c.args.parcel.bytes c.args.parcel.to) e made.image;
      host = subst (λ x. g.E.Engine.host_of x ≡ c.args.parcel.to) e made.host;
      stands = subst (λ x. g.E.Engine.stands_for x (progress_of c.args.parcel.held.entries).served) e made.stands;
      owner = a.owner;
      same = a.same;
    })

pub returns-in-Err-clause-ended : goal.returns-in-Err-clause-ended
returns-in-Err-clause-ended g c = inr (c.resume-lease.ensures.noted, c.resume-lease.ensures.owner)

pub returns-in-Ok-clause-does : goal.returns-in-Ok-clause-does
returns-in-Ok-clause-does g c = let p = c.args.parcel in
    adopted_as g.E.Engine.meaning p c.adopt-lease.result (entry.Adopted p.from p.to p.again p.certified c.in-Ok.objects) c.adopt-lease.ensures.entries c.adopt-lease.ensures.same.0 c.is_legal.ensures.legal tt c.requires

pub returns-in-Err-clause-does : goal.returns-in-Err-clause-does
returns-in-Err-clause-does g c = let p = c.args.parcel in let n = c.resume-lease.ensures.noted in
    adopted_as g.E.Engine.meaning p c.resume-lease.result (entry.Resumed p.from p.again) n.2 n.4 c.is_legal-in-Err.ensures.legal tt c.requires
