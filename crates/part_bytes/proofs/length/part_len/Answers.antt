use Rattle.std.proofs.Common.{◌∙◌}
use Rattle.part_bytes.proofs.Orders.{order_alone}
use Rattle.part_bytes.proofs.length.part_len.Goals as goal

pub len_of-requires-clause-order : goal.len_of-requires-clause-order
len_of-requires-clause-order c = c.as_slice.ensures ∙ order_alone c.args.state.now c.args.names.now c.requires _ (λ at h. (c.in_ok-found.ensures.members at).0 h) c.in_ok-found.ensures.order
