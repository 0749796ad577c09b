use Rattle.std.proofs.Common.{arith}
use Rattle.std.proofs.lemmas.List.{get_or_read}
use Rattle.flow_arcs.proofs.Partners.{partner_rests}
use Rattle.flow_arcs.proofs.Ways.{way_node, enters, heads_below}
use Rattle.flow_arcs.proofs.send.Sender.try_arc.Goals as goal

pub index-requires : goal.index-requires
index-requires c =
    let e = enters c.args.net.now c.args.links.now.to.items c.args.links.now.first.items c.args.links.now.next.items c.args.arc c.index-node.result.now c.requires.links c.requires.arc c.index-node.ensures in
    let h = heads_below c.args.net.now.nodes c.args.net.now.arcs c.requires.net.joined c.args.arc c.requires.arc in
    let r = c.requires.sending.levels in
    omega (arith, c.args.self.now.level.ok.0)

pub index-requires-2 : goal.index-requires-2
index-requires-2 c =
    let n = way_node c.args.net.now c.args.self.now.rest.items c.args.self.now.level.items c.args.self.now.last c.args.self.now.before c.requires.net c.requires.sending.way in
    let r = c.requires.sending.levels in
    omega (arith, c.args.self.now.level.ok.0)

pub index-requires-3 : goal.index-requires-3
index-requires-3 c =
    let r = partner_rests c.args.net.now.arcs c.args.self.now.rest.items c.args.arc c.requires.sending.paired c.requires.arc in
    let a = r.0 in
    omega (arith, c.args.self.now.rest.ok.0)

pub deliver-requires-clause-fits : goal.deliver-requires-clause-fits
deliver-requires-clause-fits c =
    let r = partner_rests c.args.net.now.arcs c.args.self.now.rest.items c.args.arc c.requires.sending.paired c.requires.arc in
    let g = get_or_read c.args.self.now.rest.items c.args.arc c.index-3.result.now r.0 c.index-3.ensures 0 in
    let m = c.min-room.ensures in
    omega arith

pub climb-requires-clause-fits : goal.climb-requires-clause-fits
climb-requires-clause-fits c =
    let r = partner_rests c.args.net.now.arcs c.args.self.now.rest.items c.args.arc c.requires.sending.paired c.requires.arc in
    let g = get_or_read c.args.self.now.rest.items c.args.arc c.index-3.result.now r.0 c.index-3.ensures 0 in
    let m = c.min-room.ensures in
    omega arith

pub climb-requires-clause-higher : goal.climb-requires-clause-higher
climb-requires-clause-higher c =
    let e = enters c.args.net.now c.args.links.now.to.items c.args.links.now.first.items c.args.links.now.next.items c.args.arc c.index-node.result.now c.requires.links c.requires.arc c.index-node.ensures in
    let h = heads_below c.args.net.now.nodes c.args.net.now.arcs c.requires.net.joined c.args.arc c.requires.arc in
    let n = way_node c.args.net.now c.args.self.now.rest.items c.args.self.now.level.items c.args.self.now.last c.args.self.now.before c.requires.net c.requires.sending.way in
    let r = c.requires.sending.levels in
    let a = get_or_read c.args.self.now.level.items c.index-node.result.now c.index.result.now (omega arith) c.index.ensures 0 in
    let b = get_or_read c.args.self.now.level.items c.args.self.now.last.node c.index-2.result.now (omega arith) c.index-2.ensures 0 in
    let f = c.if-index.false in
    omega arith
