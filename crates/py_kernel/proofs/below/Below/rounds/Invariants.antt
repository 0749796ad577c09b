use Rattle.std.proofs.Common.{◌-◌}
use Rattle.py_machine.specs.Runs.{LeadsTo, Grows, Feeding}
use Rattle.py_meaning.specs.Acts.{run}
use Rattle.py_meaning.specs.Meaning as spec
use Rattle.py_meaning.specs.Meaning.{level}
use Rattle.py_kernel.proofs.below.Below.rounds.Given as goal

abbrev pub invariant-loop-turn : goal.invariant-loop-turn
invariant-loop-turn g l = record {
  runs : LeadsTo (run (spec.rounds (level l.self.left) spec.most_turns l.names l.comma l.body l.fn.first)) l.initial.machine (run (spec.rounds (level l.self.left) (spec.most_turns - l._turn) l.names l.comma l.body l.from)) l.machine;
  grows : Grows l.initial.machine l.machine;
  fed : Feeding l.initial.machine.drawn (g.F.Feed.seen l.initial.feed) l.machine.drawn (g.F.Feed.seen l.feed);
}
