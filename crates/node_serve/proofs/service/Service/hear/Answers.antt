use Rattle.std.proofs.Common.{true, take, refl, sym, subst}
use Rattle.std.specs.Prelude.{MatchResult}
use Rattle.node_serve.specs.Sent.{wire}
use Rattle.node_serve.specs.Hearing.{Heeds, HeedsFront}
use Rattle.node_serve.proofs.Sendings.{cut_on, same_on}
use Rattle.node_serve.proofs.Serving.{heard_serves, still_served, still_till}
use Rattle.node_serve.proofs.service.Service.hear.Goals as goal

pub returns-in-Bytes-clause-serves : goal.returns-in-Bytes-clause-serves
returns-in-Bytes-clause-serves g c =
    let old = wire (g.L.Link.line c.args.link.now) (g.L.Link.faults c.args.link.now) c.args.is_cut.now in
    let new = wire (g.L.Link.line c.poll.new.self) (g.L.Link.faults c.poll.new.self) c.args.is_cut.now in
    let was = c.args.self.now in
    let is = c.take_piece.new.self in
    let piece = take c.in-Bytes.count c.poll.new.into in
    let told = subst (λ n. MatchResult c.take_piece.result (λ heard. Heeds g.N.Name.queues n was.framer was.node was.told piece heard is.framer is.node is.told) (λ _. HeedsFront g.N.Name.queues n was.framer was.node piece is.node)) (sym c.requires.hosts) c.take_piece.ensures.took in
    heard_serves c.take_piece.result g.N.Name.hosts g.N.Name.queues old new was.framer is.framer was.node is.node was.told is.told piece c.in-Bytes.ensures.bytes.2 c.in-Bytes.ensures.faults_stay refl told

pub returns-in-Failed-clause-serves : goal.returns-in-Failed-clause-serves
returns-in-Failed-clause-serves g c = λ start s.
    let old = wire (g.L.Link.line c.args.link.now) (g.L.Link.faults c.args.link.now) c.args.is_cut.now in
    let new = wire (g.L.Link.line c.poll.new.self) (g.L.Link.faults c.poll.new.self) true in
    still_served g.N.Name.hosts g.N.Name.queues start old new c.args.self.now.framer c.args.self.now.node c.args.self.now.told
    (λ taken lists i. cut_on start old new taken lists c.in-Failed.ensures.bytes c.in-Failed.ensures.faults_stay c.requires.whole refl (c.in-Failed.ensures.failed refl) i) s

pub returns-in-OutOfMemory-clause-serves : goal.returns-in-OutOfMemory-clause-serves
returns-in-OutOfMemory-clause-serves g c = λ start s.
    let old = wire (g.L.Link.line c.args.link.now) (g.L.Link.faults c.args.link.now) c.args.is_cut.now in
    let new = wire (g.L.Link.line c.poll.new.self) (g.L.Link.faults c.poll.new.self) c.args.is_cut.now in
    still_till g.N.Name.hosts g.N.Name.queues start old new c.args.self.now.framer c.args.self.now.node c.args.self.now.told
    (λ taken lists i. same_on start old new taken lists c.in-OutOfMemory.ensures.bytes c.in-OutOfMemory.ensures.faults_stay refl i) s
