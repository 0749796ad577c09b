use Rattle.std.proofs.Common.{◌∙◌, ap}
use Rattle.ruled_queue.specs.Rule.{producer_part}
use Rattle.session_queues.proofs.Steps.{first_produces}
use Rattle.session_queues.proofs.queues.separated.Goals as goal

pub invariant_of-pass : goal.invariant_of-pass
invariant_of-pass g c =
    let o = c.requires.main.1 in
    let p = first_produces o.0 _ _ (c.split_consumer-main_consumer.ensures.producer ∙ ap producer_part (c.pop_opening.ensures.popped o.0 o.1 o.2)) (c.split_consumer-control_consumer.ensures.producer ∙ ap producer_part c.requires.control.1) in
    let m = c.split_consumer-main_consumer.ensures.queue.0 in
    let n = c.split_consumer-control_consumer.ensures.queue.0 in
    ((m.1, m.2, n.1, n.2), p.0, p.1, p.2, p.3)
