use Rattle.session_queues.proofs.Outgoing.{IsUnderWay}
use Rattle.session_queues.proofs.outlet.Outlet.publish_all.Given as goal

abbrev pub invariant-loop-entry : goal.invariant-loop-entry
invariant-loop-entry g l = IsUnderWay l.fn.self l.self l.entries l.entry-items l.entry-index
