use Rattle.std.proofs.Common.{◌∷◌}
use Rattle.flow_arcs.proofs.Ways.{carried_along}
use Rattle.flow_arcs.proofs.send.Sender.send_along.Goals as goal

pub returns-clause-sending : goal.returns-clause-sending
returns-clause-sending c = c.leave.ensures.sending

pub returns-clause-carried : goal.returns-clause-carried
returns-clause-carried c =
    carried_along c.args.net.now.arcs c.args.self.now.rest.items c.back.self.rest.items c.leave.new.self.rest.items (c.args.self.now.last ∷ c.args.self.now.before) (c.back.self.last ∷ c.back.self.before)
    (c.leave.new.self.last ∷ c.leave.new.self.before) c.back.invariant.carried c.leave.ensures.carried

pub returns-clause-back : goal.returns-clause-back
returns-clause-back c = c.leave.ensures.ends c.back-test.false
