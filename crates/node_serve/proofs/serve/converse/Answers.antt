use Rattle.std.proofs.Common.{refl, subst}
use Rattle.node_serve.specs.Sent.{wire}
use Rattle.node_serve.specs.Service.{IsFed, IsLeft}
use Rattle.node_serve.proofs.Serving.{first_served}
use Rattle.node_serve.proofs.Ending.{none_open}
use Rattle.node_serve.proofs.serve.converse.Goals as goal

pub returns-in-Ok : goal.returns-in-Ok
returns-in-Ok g c =
    let first = wire (g.L.Link.line c.args.link.now) (g.L.Link.faults c.args.link.now) c.args.is_cut.now in
    let now = wire (g.L.Link.line c.attend.new.link) (g.L.Link.faults c.attend.new.link) c.attend.new.is_cut in
    let node = c.new-2.result in
    let stands = c.new-2.ensures in
    let begun = first_served g.N.Name.hosts g.N.Name.queues first c.new.result node 0 c.requires.whole c.new.ensures stands (none_open node.desk g.N.Name.queues stands.sessions) stands.errors refl in
    let served = c.in-Ok.ensures.serves first begun in
    let fed = c.fed_by.ensures.fed first now served c.in-Ok.ensures.ends.0 c.in-Ok.ensures.ends.1 in
    let r = c.fed_by.result in
    record { fed = subst (λ n. IsFed n g.N.Name.queues first now r.sessions.items r.errors r.broken r.end r.told) c.requires.hosts fed }

pub returns-in-Err : goal.returns-in-Err
returns-in-Err g c =
    let first = wire (g.L.Link.line c.args.link.now) (g.L.Link.faults c.args.link.now) c.args.is_cut.now in
    let now = wire (g.L.Link.line c.attend.new.link) (g.L.Link.faults c.attend.new.link) c.attend.new.is_cut in
    let node = c.new-2.result in
    let stands = c.new-2.ensures in
    let begun = first_served g.N.Name.hosts g.N.Name.queues first c.new.result node 0 c.requires.whole c.new.ensures stands (none_open node.desk g.N.Name.queues stands.sessions) stands.errors refl in
    let left = c.left_by.ensures.left first now (c.in-Err.ensures.serves first begun) in
    record { fed = subst (λ n. IsLeft n g.N.Name.queues first now c.left_by.result.items) c.requires.hosts left }
