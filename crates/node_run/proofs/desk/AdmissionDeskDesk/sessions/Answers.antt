use Rattle.std.proofs.Common.{ap, length, arith}
use Rattle.node_run.proofs.Seating.{open_length}
use Rattle.node_run.proofs.desk.AdmissionDeskDesk.sessions.Goals as goal

pub returns-clause-all : goal.returns-clause-all
returns-clause-all g c = λ ts are.
    let same = open_length ts c.args.self.now g.N.Name.queues are in
    let view = ap length c.self.view_is in
    let count = c.self.inside.sessions.ok.0 in
    let told = c.len.ensures in
    omega (arith, same, view, count, told)
