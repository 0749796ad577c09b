use Rattle.std.proofs.Common.{drop}
use Rattle.py_machine.specs.Runs.{LeadsTo, Grows, Feeding}
use Rattle.py_meaning.specs.Acts.{run}
use Rattle.py_meaning.specs.Meaning as spec
use Rattle.py_meaning.specs.Meaning.{level}
use Rattle.py_kernel.proofs.below.Below.arms.Given as goal

abbrev pub invariant-loop-arm : goal.invariant-loop-arm
invariant-loop-arm g l = record {
  runs : LeadsTo (run (spec.arms (level l.self.left) l.arms l.other)) l.initial.machine (run (spec.arms (level l.self.left) (drop l.arm-index l.arms) l.other)) l.machine;
  grows : Grows l.initial.machine l.machine;
  fed : Feeding l.initial.machine.drawn (g.F.Feed.seen l.initial.feed) l.machine.drawn (g.F.Feed.seen l.feed);
}
