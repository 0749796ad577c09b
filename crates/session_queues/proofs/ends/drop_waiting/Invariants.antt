use Rattle.std.proofs.Common.{◌≡◌, true}
use Rattle.crossbeam_queue.specs.SegTies.{IsSegPassOf}
use Rattle.session_queues.proofs.Waiting.{PoppedOn}
use Rattle.session_queues.proofs.ends.drop_waiting.Given as goal

abbrev pub invariant-loop : goal.invariant-loop
invariant-loop g l = (goal.iterator-loop g).can_next l.iterator' × (goal.iterator-loop g).is_finite l.iterator' × IsSegPassOf l.queue l.seat × (l.seat.me.view.client.pops ≡ true)
    × PoppedOn l.fn.seat.me.view.client l.seat.me.view.client
