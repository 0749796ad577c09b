use Rattle.node_intake.proofs.Taking.{none_cut, one_cut}
use Rattle.node_intake.proofs.frames.cut_off.Goals as goal

pub loop-body-init : goal.loop-body-init
loop-body-init c = none_cut c.args.framer.now c.new-bodies.result.items c.new-bodies.ensures.items

pub loop-body-preserved : goal.loop-body-preserved
loop-body-preserved c =
    one_cut c.args.framer.now c.loop-body.framer c.next.new.self c.loop-body.bodies.items c.push.new.self.items c.in-Frame.body c.in_ok-push-in-Frame.ensures.items
    c.in-Frame.ensures.0 c.in-Frame.ensures.1 c.in-Frame.ensures.2 c.loop-body.invariant
