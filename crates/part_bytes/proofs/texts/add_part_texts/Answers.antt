use Rattle.std.proofs.Common.{◌∙◌}
use Rattle.part_bytes.proofs.Orders.{order_alone}
use Rattle.part_bytes.proofs.Tables.{whole_part}
use Rattle.part_bytes.proofs.texts.add_part_texts.Goals as goal

pub returns : goal.returns
returns c = whole_part c.args.state.now c.args.names.now c.args.texts.now _ _ _
    (c.as_slice.ensures ∙ order_alone c.args.state.now c.args.names.now c.requires _ (λ at h. (c.in_ok-found.ensures.members at).0 h) c.in_ok-found.ensures.order)
    c.in_ok-add_all_held.ensures c.in_ok-add_objects.ensures
