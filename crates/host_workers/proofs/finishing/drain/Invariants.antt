use Rattle.host_workers.specs.Tenures.{IsSettledAs}
use Rattle.host_workers.proofs.finishing.drain.Given as goal

abbrev pub invariant-loop : goal.invariant-loop
invariant-loop g l =
    (goal.iterator-loop g).can_next l.iterator' × (goal.iterator-loop g).is_finite l.iterator' × IsSettledAs g.F.Feed.seen l.fn.lease l.lease
