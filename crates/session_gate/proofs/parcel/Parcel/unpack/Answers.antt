use Rattle.std.proofs.Common.{sym, subst}
use Rattle.session_core.specs.Meanings.{IsPacked}
use Rattle.session_core.specs.Legal.{progress_of}
use Rattle.session_core.proofs.Stepping.{alive_has_no_end}
use Rattle.std.specs.Prelude.{IfOk}
use Rattle.session_gate.specs.Facts.{Away}
use Rattle.session_gate.proofs.Going.{is_packed, if_ok_more}
use Rattle.session_gate.proofs.parcel.Parcel.unpack.Goals as goal

pub unpack-requires : goal.unpack-requires
unpack-requires g c = let i = c.self.inside in let k = c.self.invariant in let served = (progress_of i.resident.entries).served in (
  served,
  i.certified.plan,
  subst (IsPacked g.E.Engine.meaning served i.certified.plan) (sym c.as_slice.ensures)
      (is_packed g.E.Engine.meaning 0 served (record { bytes = i.bytes; certified = i.certified }) i.again.ask k.packs (g.met.E.Engine.runs i.resident.engine served (c.stands.ensures k.alive)) (alive_has_no_end i.resident.entries k.alive)),
)

pub returns-clause-stands : goal.returns-clause-stands
returns-clause-stands g c = let i = c.self.inside in let k = c.self.invariant in let e = g.E.Engine in let served = (progress_of i.resident.entries).served in
    subst (λ (p : Away g.row.E.Denot g.row.F.Denot). IfOk c.unpack.result (λ made. e.stands_for made.0 (progress_of p.held.entries).served)) c.self.view_is
    (if_ok_more _ (λ made. e.stands_for made.0 served) c.unpack.result c.unpack.ensures.stands (λ made h. (h served i.certified.plan (subst (IsPacked e.meaning served i.certified.plan) (sym c.as_slice.ensures)
    (is_packed e.meaning 0 served (record { bytes = i.bytes; certified = i.certified }) i.again.ask k.packs (g.met.E.Engine.runs i.resident.engine served (c.stands.ensures k.alive)) (alive_has_no_end i.resident.entries k.alive)))).0))

pub returns-clause-objects : goal.returns-clause-objects
returns-clause-objects g c = let i = c.self.inside in let k = c.self.invariant in let e = g.E.Engine in let served = (progress_of i.resident.entries).served in
    subst (λ (p : Away g.row.E.Denot g.row.F.Denot). IfOk c.unpack.result (λ made. e.meaning.HasObjects (progress_of p.held.entries).served made.1)) c.self.view_is
    (if_ok_more _ (λ made. e.meaning.HasObjects served made.1) c.unpack.result c.unpack.ensures.stands (λ made h. (h served i.certified.plan (subst (IsPacked e.meaning served i.certified.plan) (sym c.as_slice.ensures)
    (is_packed e.meaning 0 served (record { bytes = i.bytes; certified = i.certified }) i.again.ask k.packs (g.met.E.Engine.runs i.resident.engine served (c.stands.ensures k.alive)) (alive_has_no_end i.resident.entries k.alive)))).1))
