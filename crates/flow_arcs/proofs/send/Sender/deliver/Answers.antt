use Rattle.std.proofs.Common.{arith}
use Rattle.flow_arcs.proofs.Partners.{partner_rests, pairs_length}
use Rattle.flow_arcs.proofs.Ways.{delivered, delivered_carries, way_fits}
use Rattle.flow_arcs.proofs.send.Sender.deliver.Goals as goal

pub push-requires : goal.push-requires
push-requires c =
    let r = partner_rests c.args.net.now.arcs c.args.self.now.rest.items c.args.arc c.requires.sending.paired c.requires.arc in
    let l = pairs_length c.args.net.now.arcs c.args.self.now.rest.items c.requires.sending.paired in
    record { arc = r.0; back = r.1; few = omega arith; fits = c.requires.fits; sum = r.2 }

pub overflow_add-self : goal.overflow_add-self
overflow_add-self c =
    let w = way_fits c.args.net.now.arcs c.args.self.now.rest.items c.args.self.now.level.items c.args.self.now.last c.args.self.now.before c.requires.sending.way in
    omega arith

pub returns-clause-sending : goal.returns-clause-sending
returns-clause-sending c =
    rw c.push.ensures
    (delivered c.args.net.now c.args.self.now.rest.items c.args.self.now.level.items c.args.self.now.turn.items c.args.self.now.last c.args.self.now.before c.args.arc c.args.amount
    c.requires.sending c.requires.arc c.requires.leaves c.requires.fits c.requires.asked)

pub returns-clause-carried : goal.returns-clause-carried
returns-clause-carried c =
    rw c.push.ensures
    (delivered_carries c.args.net.now c.args.self.now.rest.items c.args.self.now.level.items c.args.self.now.turn.items c.args.self.now.last c.args.self.now.before c.args.arc c.args.amount
    c.requires.sending c.requires.arc c.requires.leaves c.requires.enters c.requires.fits)
