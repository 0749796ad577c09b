use Rattle.std.proofs.Common.{drop, []}
use Rattle.py_machine.specs.Runs.{LeadsTo, Grows, Feeding}
use Rattle.py_meaning.specs.Acts.{run}
use Rattle.py_meaning.specs.Meaning as spec
use Rattle.py_meaning.specs.Meaning.{level}
use Rattle.py_kernel.proofs.below.Below.pairs.Given as goal

abbrev pub invariant-loop-pair : goal.invariant-loop-pair
invariant-loop-pair g l = record {
  runs : LeadsTo (run (spec.pairs_from (level l.self.left) [] l.pairs)) l.initial.machine (run (spec.pairs_from (level l.self.left) l.values (drop l.pair-index l.pairs))) l.machine;
  grows : Grows l.initial.machine l.machine;
  fed : Feeding l.initial.machine.drawn (g.F.Feed.seen l.initial.feed) l.machine.drawn (g.F.Feed.seen l.feed);
}
