use Rattle.std.proofs.Common.{arith}
use Rattle.flow_arcs.proofs.Ways.{way_node, turn_arc}
use Rattle.flow_arcs.proofs.send.Sender.step.Goals as goal

pub index-position-requires : goal.index-position-requires
index-position-requires c =
    let n = way_node c.args.net.now c.args.self.now.rest.items c.args.self.now.level.items c.args.self.now.last c.args.self.now.before c.requires.net c.requires.sending.way in
    let r = c.requires.sending.turns in
    omega (arith, c.args.self.now.turn.ok.0)

pub try_arc-requires-clause-arc : goal.try_arc-requires-clause-arc
try_arc-requires-clause-arc c =
    (turn_arc c.args.net.now c.args.self.now.rest.items c.args.self.now.level.items c.args.self.now.turn.items c.args.self.now.last c.args.self.now.before c.index-position.result.now
    c.requires.net c.requires.sending c.index-position.ensures c.if-position-eq0.false).0

pub try_arc-requires-clause-leaves : goal.try_arc-requires-clause-leaves
try_arc-requires-clause-leaves c =
    (turn_arc c.args.net.now c.args.self.now.rest.items c.args.self.now.level.items c.args.self.now.turn.items c.args.self.now.last c.args.self.now.before c.index-position.result.now
    c.requires.net c.requires.sending c.index-position.ensures c.if-position-eq0.false).1
