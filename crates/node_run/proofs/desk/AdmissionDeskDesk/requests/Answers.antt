use Rattle.std.proofs.Common.{sym, ◌∙◌, ap, subst, ◌<◌, length, List}
use Rattle.node_run.specs.declared.open_session.OpenSession.{OpenSession}
use Rattle.node_run.specs.Admitted.{AreOpen, admitted_at}
use Rattle.node_run.proofs.Seating.{open_at, read_there, admitted_there}
use Rattle.node_run.proofs.desk.AdmissionDeskDesk.requests.Goals as goal

pub returns-clause-asked : goal.returns-clause-asked
returns-clause-asked g c =
    let os = c.self.inside.sessions.items in
    let within : c.args.at < length os = subst (λ (l : List OpenSession). c.args.at < length l) (sym c.self.view_is) c.requires in
    sym (ap (λ (l : List OpenSession). admitted_at l c.args.at) (sym c.self.view_is) ∙ admitted_there os c.args.at c.index.result.now (read_there os c.args.at c.index.result.now within c.index.ensures))

pub returns-clause-all : goal.returns-clause-all
returns-clause-all g c = λ ts s are there.
    let os = c.self.inside.sessions.items in
    let within : c.args.at < length os = subst (λ (l : List OpenSession). c.args.at < length l) (sym c.self.view_is) c.requires in
    let here = open_at ts os g.N.Name.queues c.args.at s c.index.result.now (subst (λ (l : List OpenSession). AreOpen ts l g.N.Name.queues) (sym c.self.view_is) are) there (read_there os c.args.at c.index.result.now within c.index.ensures) in
    sym here.2.requests
