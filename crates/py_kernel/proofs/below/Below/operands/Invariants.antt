use Rattle.std.proofs.Common.{drop}
use Rattle.py_machine.specs.Runs.{LeadsTo, Grows, Feeding}
use Rattle.py_meaning.specs.Acts.{run}
use Rattle.py_meaning.specs.Meaning.{level, operands}
use Rattle.py_kernel.proofs.below.Below.operands.Given as goal

abbrev pub invariant-loop-operand : goal.invariant-loop-operand
invariant-loop-operand g l = record {
  runs : LeadsTo (run (operands (level l.self.left) l.fn.first l.rest)) l.initial.machine (run (operands (level l.self.left) l.total (drop l.operand-index l.rest))) l.machine;
  grows : Grows l.initial.machine l.machine;
  fed : Feeding l.initial.machine.drawn (g.F.Feed.seen l.initial.feed) l.machine.drawn (g.F.Feed.seen l.feed);
}
