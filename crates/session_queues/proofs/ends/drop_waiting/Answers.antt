use Rattle.std.proofs.Common.{sym, ◌∙◌}
use Rattle.session_queues.proofs.Waiting.{none_popped, popped_more, consumer_still, all_waited}
use Rattle.session_queues.proofs.ends.drop_waiting.Goals as goal

pub loop-init : goal.loop-init
loop-init g c = (tt, tt, c.requires.queue, c.requires.consumer, none_popped c.args.seat.now.me.view.client)

pub loop-preserved : goal.loop-preserved
loop-preserved g c =
    let w = c.loop.seat.me.view.client in
    let u = c.pop_and_drop.new.seat.me.view.client in (
      tt,
      tt,
      c.pop_and_drop.ensures.queue,
      consumer_still g.N.Numbering.number g.N.Numbering.is_fit g.N.Numbering.opens c.pop_and_drop.result w u c.pop_and_drop.ensures.done c.loop.invariant.3,
      popped_more g.N.Numbering.number g.N.Numbering.is_fit g.N.Numbering.opens c.pop_and_drop.result c.args.seat.now.me.view.client w u c.pop_and_drop.ensures.done c.loop.invariant.4,
    )

pub returns-then-not-pop_and_drop : goal.returns-then-not-pop_and_drop
returns-then-not-pop_and_drop g c =
    all_waited g.N.Numbering.number g.N.Numbering.is_fit g.N.Numbering.opens c.pop_and_drop.result c.args.seat.now.me.view.client c.loop.seat.me.view.client c.pop_and_drop.new.seat.me.view.client
    (c.if-not-pop_and_drop.true) c.pop_and_drop.ensures.done c.loop.invariant.4
