use Rattle.std.proofs.Common.{◌≡◌, true}
use Rattle.std.specs.Prelude.{List}
use Rattle.session_core.specs.declared.entry.Entry.{Entry}
use Rattle.crossbeam_queue.specs.SegTies.{IsSegPassOf}
use Rattle.session_queues.specs.Ends.{KnowsPushed}
use Rattle.session_queues.proofs.outlet.drop_rest.Given as goal

abbrev pub invariant-loop : goal.invariant-loop
invariant-loop g l = (goal.iterator-loop g).can_next l.iterator' × (goal.iterator-loop g).is_finite l.iterator' × IsSegPassOf l.queue l.seat × (l.seat.me.view.client.pops ≡ true)
    × ((pushed : List Entry) → KnowsPushed l.fn.seat.me.view.client pushed → KnowsPushed l.seat.me.view.client pushed)
