use Rattle.std.proofs.Common.{◌≡◌, false, subst, ◌∙◌}
use Rattle.session_core.specs.Legal.{progress_of}
use Rattle.session_gate.specs.Facts.{Holds}
use Rattle.session_gate.proofs.resident.Resident.stands.Goals as goal

pub returns : goal.returns
returns g c =
    subst (λ (h : Holds g.row.E.Denot g.row.F.Denot). (progress_of h.entries).dead ≡ false → g.E.Engine.stands_for h.engine (progress_of h.entries).served) c.self.view_is
    (λ dead. (c.self.invariant.kept.alive (c.self.invariant.kept.dead ∙ dead)).0)
