use Rattle.std.proofs.Common.{take}
use Rattle.history_graph.specs.Touched.{AreHeldAmong}
use Rattle.history_graph.proofs.missing.held_names.Given as goal

abbrev pub invariant-loop-v : goal.invariant-loop-v
invariant-loop-v l = AreHeldAmong l.graph l.marks (take l.v-index l.active) l.held
