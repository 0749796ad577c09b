use Rattle.std.proofs.Common.{take}
use Rattle.history_graph.specs.Sets.{IsWith}
use Rattle.history_graph.proofs.sets.add_names.Given as goal

abbrev pub invariant-loop-name : goal.invariant-loop-name
invariant-loop-name l = IsWith l.initial.set (take l.name-index l.names) l.set
