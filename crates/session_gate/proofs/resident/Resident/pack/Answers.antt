use Rattle.std.proofs.Common.{subst, ap, ◌∙◌}
use Rattle.session_core.specs.Engines.{Packs}
use Rattle.session_core.specs.Legal.{progress_of}
use Rattle.session_core.proofs.Stepping.{alive_has_no_end}
use Rattle.session_gate.specs.Facts.{Holds}
use Rattle.session_gate.proofs.resident.Resident.pack.Goals as goal

pub pack-requires : goal.pack-requires
pack-requires g c = let i = c.self.inside in let v = c.self.view_is in let k = c.self.invariant.kept in
    let alive = k.dead ∙ (ap (λ (h : Holds g.row.E.Denot g.row.F.Denot). (progress_of h.entries).dead) v ∙ c.requires) in
    g.met.E.Engine.used i.engine (progress_of i.journal.entries).served (k.alive alive).0

pub returns : goal.returns
returns g c = let i = c.self.inside in let v = c.self.view_is in let k = c.self.invariant.kept in
    let dead = ap (λ (h : Holds g.row.E.Denot g.row.F.Denot). (progress_of h.entries).dead) v ∙ c.requires in
    let alive = k.dead ∙ dead in
    subst (λ (h : Holds g.row.E.Denot g.row.F.Denot). Packs g.E.Engine.meaning (progress_of h.entries).served c.args.weights.now c.pack.result) v
    (c.pack.ensures (progress_of i.journal.entries).served (k.alive alive).0 (alive_has_no_end i.journal.entries dead))
