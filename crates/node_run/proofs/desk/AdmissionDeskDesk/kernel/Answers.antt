use Rattle.std.proofs.Common.{sym, subst, ◌<◌, length, List}
use Rattle.node_run.specs.declared.open_session.OpenSession.{OpenSession}
use Rattle.node_run.specs.Admitted.{AreOpen}
use Rattle.node_run.proofs.Seating.{open_at, read_there}
use Rattle.node_run.proofs.desk.AdmissionDeskDesk.kernel.Goals as goal

pub returns : goal.returns
returns g c = λ ts s are there.
    let os = c.self.inside.sessions.items in
    let within : c.args.at < length os = subst (λ (l : List OpenSession). c.args.at < length l) (sym c.self.view_is) c.requires in
    let here = open_at ts os g.N.Name.queues c.args.at s c.index.result.now (subst (λ (l : List OpenSession). AreOpen ts l g.N.Name.queues) (sym c.self.view_is) are) there (read_there os c.args.at c.index.result.now within c.index.ensures) in
    here.2.kernel
