use Rattle.std.proofs.Common.{take}
use Rattle.history_graph.specs.Grown.{AreMarked}
use Rattle.history_graph.proofs.growth.age.Given as goal

abbrev pub invariant-loop-v : goal.invariant-loop-v
invariant-loop-v l = AreMarked l.writer (take l.v-index l.numbers) l.initial.all.items l.all.items
