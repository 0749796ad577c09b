use Rattle.std.proofs.Common.{subst, arith}
use Rattle.flow_arcs.specs.Ways.{IsSending}
use Rattle.flow_arcs.proofs.Partners.{partner_rests, pairs_length}
use Rattle.flow_arcs.proofs.Ways.{left, left_carries, way_node, way_fits}
use Rattle.flow_arcs.proofs.send.Sender.leave.Goals as goal

pub shut-requires : goal.shut-requires
shut-requires c =
    let n = way_node c.args.net.now c.args.self.now.rest.items c.args.self.now.level.items c.args.self.now.last c.args.self.now.before c.requires.net c.requires.sending.way in
    let r = c.requires.sending.levels in
    omega arith

pub push-requires : goal.push-requires
push-requires c =
    let h = subst (λ xs. IsSending c.args.net.now c.args.self.now.rest.items c.args.self.now.level.items c.args.self.now.turn.items c.args.self.now.last xs) c.in-Some.ensures c.requires.sending in
    let s = h.way.0 in
    let f = s.fits in
    let r = partner_rests c.args.net.now.arcs c.args.self.now.rest.items c.args.self.now.last.arc c.requires.sending.paired s.numbered in
    let l = pairs_length c.args.net.now.arcs c.args.self.now.rest.items c.requires.sending.paired in
    record { arc = r.0; back = r.1; few = omega arith; fits = omega arith; sum = r.2 }

pub overflow_add-self : goal.overflow_add-self
overflow_add-self c =
    let h = subst (λ xs. IsSending c.args.net.now c.args.self.now.rest.items c.args.self.now.level.items c.args.self.now.turn.items c.args.self.now.last xs) c.in-Some.ensures c.requires.sending in
    let s = h.way.0.asked in
    let w = way_fits c.args.net.now.arcs c.args.self.now.rest.items c.args.self.now.level.items c.in-Some.stop c.pop.new.self h.way.1 in
    omega arith

pub returns-in-Some-clause-sending : goal.returns-in-Some-clause-sending
returns-in-Some-clause-sending c =
    let h = subst (λ xs. IsSending c.args.net.now c.args.self.now.rest.items c.args.self.now.level.items c.args.self.now.turn.items c.args.self.now.last xs) c.in-Some.ensures c.requires.sending in
    rw c.push.ensures
    (left c.args.net.now c.args.self.now.rest.items c.args.self.now.level.items c.shut.new.level.items c.args.self.now.turn.items c.args.self.now.last c.in-Some.stop c.pop.new.self 0 h c.shut.ensures)

pub returns-in-Some-clause-carried : goal.returns-in-Some-clause-carried
returns-in-Some-clause-carried c =
    let h = subst (λ xs. IsSending c.args.net.now c.args.self.now.rest.items c.args.self.now.level.items c.args.self.now.turn.items c.args.self.now.last xs) c.in-Some.ensures c.requires.sending in
    rw (c.push.ensures, c.in-Some.ensures)
    (left_carries c.args.net.now c.args.self.now.rest.items c.args.self.now.level.items c.args.self.now.turn.items c.args.self.now.last c.in-Some.stop c.pop.new.self h)

pub returns-in-None-clause-sending : goal.returns-in-None-clause-sending
returns-in-None-clause-sending c =
    rw c.in-None.ensures.1
    (subst (λ xs. IsSending c.args.net.now c.args.self.now.rest.items c.args.self.now.level.items c.args.self.now.turn.items c.args.self.now.last xs) c.in-None.ensures.0 c.requires.sending)
