use Rattle.std.proofs.Common.{◌≡◌, length}
use Rattle.node_run.proofs.run.make_queues.Given as goal

abbrev pub invariant-loop-number : goal.invariant-loop-number
invariant-loop-number l = length l.queues.items ≡ l.number
