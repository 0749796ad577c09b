use Rattle.std.proofs.Common.{sym, ◌∙◌, arith}
use Rattle.node_run.proofs.Seating.{read_there, seated_at, admitted_there}
use Rattle.node_run.proofs.desk.admit_to.Goals as goal

pub admit_on-requires-clause-pass : goal.admit_on-requires-clause-pass
admit_on-requires-clause-pass g c =
    let os = c.args.sessions.now.items in
    let o = c.index_mut-session.result.now in
    let there = read_there os c.args.at o c.requires.at c.index_mut-session.ensures.value in
    (seated_at os g.N.Name.queues c.args.at o c.args.cell.now.0 c.requires.seated there c.requires.cell).0

pub admit_on-requires-clause-number : goal.admit_on-requires-clause-number
admit_on-requires-clause-number g c =
    let os = c.args.sessions.now.items in
    let o = c.index_mut-session.result.now in
    let there = read_there os c.args.at o c.requires.at c.index_mut-session.ensures.value in
    c.requires.frontend ∙ sym (seated_at os g.N.Name.queues c.args.at o c.args.cell.now.0 c.requires.seated there c.requires.cell).1

pub overflow_add-session : goal.overflow_add-session
overflow_add-session g c =
    let os = c.args.sessions.now.items in
    let o = c.index_mut-session.result.now in
    let there = admitted_there os c.args.at o (read_there os c.args.at o c.requires.at c.index_mut-session.ensures.value) in
    let few = c.requires.few in
    omega arith
