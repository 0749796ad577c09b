use Rattle.std.proofs.Common.{List, refl, subst}
use Rattle.node_intake.specs.declared.node.Intake.{Intake}
use Rattle.node_run.specs.declared.open_session.OpenSession.{OpenSession}
use Rattle.node_run.proofs.Keeping.{alike_length}
use Rattle.node_serve.specs.Sent.{wire, Tells, TellsFront}
use Rattle.node_serve.proofs.Serving.{entry_told, entry_cut, entry_lost}
use Rattle.node_serve.proofs.service.Service.tell_next.Goals as goal

pub returns-in-Ok-clause-count : goal.returns-in-Ok-clause-count
returns-in-Ok-clause-count g c =
    let alike = rw c.in-Ok-Some.field-0-is at c.in-Ok-Some.ensures.same in
    alike_length c.args.self.now.node.desk c.next_frames.new.desk alike

pub returns-in-Ok-clause-serves : goal.returns-in-Ok-clause-serves
returns-in-Ok-clause-serves g c = λ start s.
    let old = wire (g.L.Link.line c.args.link.now) (g.L.Link.faults c.args.link.now) c.args.is_cut.now in
    let new = wire (g.L.Link.line c.tell.new.link) (g.L.Link.faults c.tell.new.link) c.tell.new.is_cut in
    let node = c.args.self.now.node in
    let then : Intake (List OpenSession) = record node { desk = c.next_frames.new.desk } in
    let alike = rw c.in-Ok-Some.field-0-is at c.in-Ok-Some.ensures.same in
    let next = rw c.in-Ok-Some.field-0-is at c.in-Ok-Some.ensures.next in
    let tells = subst (λ bytes. Tells old new bytes) c.as_slice.ensures c.in-Ok.ensures.tells in
    entry_told g.N.Name.hosts g.N.Name.queues start old new c.args.self.now.framer node then c.args.self.now.told c.in-Ok-Some.frames alike refl next tells s

pub returns-in-Ok-Some-clause-serves : goal.returns-in-Ok-Some-clause-serves
returns-in-Ok-Some-clause-serves g c = λ start s.
    let old = wire (g.L.Link.line c.args.link.now) (g.L.Link.faults c.args.link.now) c.args.is_cut.now in
    let new = wire (g.L.Link.line c.tell.new.link) (g.L.Link.faults c.tell.new.link) c.tell.new.is_cut in
    let node = c.args.self.now.node in
    let then : Intake (List OpenSession) = record node { desk = c.next_frames.new.desk } in
    let alike = rw c.in-Ok-Some.field-0-is at c.in-Ok-Some.ensures.same in
    let next = rw c.in-Ok-Some.field-0-is at c.in-Ok-Some.ensures.next in
    let tells = subst (λ bytes. TellsFront old new bytes) c.as_slice.ensures c.in-Err-tell.ensures.tells in
    entry_cut g.N.Name.hosts g.N.Name.queues start old new c.args.self.now.framer node then c.args.self.now.told c.in-Ok-Some.frames alike refl next tells s

pub returns-clause-serves : goal.returns-clause-serves
returns-clause-serves g c = λ start s.
    let now = wire (g.L.Link.line c.args.link.now) (g.L.Link.faults c.args.link.now) c.args.is_cut.now in
    let node = c.args.self.now.node in
    let then : Intake (List OpenSession) = record node { desk = c.next_frames.new.desk } in
    entry_lost g.N.Name.hosts g.N.Name.queues start now c.args.self.now.framer node then c.args.self.now.told c.in-Err.ensures.err.0 refl c.in-Err.ensures.err.1 s
