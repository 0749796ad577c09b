use Rattle.std.proofs.Common.{drop}
use Rattle.py_machine.specs.Runs.{LeadsTo, Grows, Feeding}
use Rattle.py_meaning.specs.Acts.{run}
use Rattle.py_meaning.specs.Meaning as spec
use Rattle.py_meaning.specs.Meaning.{level}
use Rattle.py_kernel.proofs.below.Below.all_of.Given as goal

abbrev pub invariant-loop-next : goal.invariant-loop-next
invariant-loop-next g l = record {
  runs : LeadsTo (run (spec.all_of (level l.self.left) l.fn.first l.rest)) l.initial.machine (run (spec.all_of (level l.self.left) l.current (drop l.next-index l.rest))) l.machine;
  grows : Grows l.initial.machine l.machine;
  fed : Feeding l.initial.machine.drawn (g.F.Feed.seen l.initial.feed) l.machine.drawn (g.F.Feed.seen l.feed);
}
