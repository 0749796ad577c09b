use Rattle.std.proofs.Common.{length}
use Rattle.py_machine.specs.Runs.{LeadsTo, Grows, Feeding}
use Rattle.py_meaning.specs.Acts.{run}
use Rattle.py_meaning.specs.Meaning as spec
use Rattle.py_meaning.specs.Meaning.{level}
use Rattle.py_kernel.proofs.below.Below.store_all.Given as goal

abbrev pub invariant-loop-ahead : goal.invariant-loop-ahead
invariant-loop-ahead g l = record {
  runs : LeadsTo (run (spec.all_stored (level l.self.left) l.fn.targets l.fn.values)) l.initial.machine (run (spec.all_stored (level l.self.left) l.ahead l.rest)) l.machine;
  grows : Grows l.initial.machine l.machine;
  fed : Feeding l.initial.machine.drawn (g.F.Feed.seen l.initial.feed) l.machine.drawn (g.F.Feed.seen l.feed);
}

abbrev pub decreases-loop-ahead : goal.decreases-loop-ahead
decreases-loop-ahead g l = length l.ahead
