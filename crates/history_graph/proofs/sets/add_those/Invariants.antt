use Rattle.std.proofs.Common.{take}
use Rattle.history_graph.specs.Sets.{IsWithThose}
use Rattle.history_graph.proofs.sets.add_those.Given as goal

abbrev pub invariant-loop-name : goal.invariant-loop-name
invariant-loop-name l = IsWithThose l.initial.set (take l.name-index l.names) l.those l.set
