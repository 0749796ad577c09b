use Rattle.part_bytes.proofs.Orders.{order_alone}
use Rattle.part_bytes.proofs.numbers.Numbers.new.Goals as goal

pub returns-clause-order : goal.returns-clause-order
returns-clause-order c = order_alone c.args.state.now c.args.names.now c.requires _ (λ at h. (c.in_ok-order.ensures.members at).0 h) c.in_ok-order.ensures.order
