use Rattle.std.proofs.Common.{arith}
use Rattle.flow_arcs.proofs.Ways.{way_node, went_on, next_arc}
use Rattle.flow_arcs.proofs.send.Sender.go_on.Goals as goal

pub index_mut-requires : goal.index_mut-requires
index_mut-requires c =
    let n = way_node c.args.net.now c.args.self.now.rest.items c.args.self.now.level.items c.args.self.now.last c.args.self.now.before c.requires.net c.requires.sending.way in
    let r = c.requires.sending.turns in
    omega (arith, c.args.self.now.turn.ok.0)

pub returns-clause-sending : goal.returns-clause-sending
returns-clause-sending c =
    went_on c.args.net.now c.args.self.now.rest.items c.args.self.now.level.items c.args.self.now.turn.items c.args.self.now.last c.args.self.now.before c.args.arc c.index.result.now
    c.requires.net c.requires.sending c.requires.leaves
    (next_arc c.args.net.now c.args.links.now.to.items c.args.links.now.first.items c.args.links.now.next.items c.args.arc c.index.result.now c.requires.links c.requires.arc c.index.ensures)
