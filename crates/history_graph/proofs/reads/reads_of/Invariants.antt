use Rattle.std.proofs.Common.{take}
use Rattle.history_graph.specs.Active.{AreThose}
use Rattle.history_graph.specs.Touched.{Reads}
use Rattle.history_graph.proofs.reads.reads_of.Given as goal

abbrev pub invariant-loop-v : goal.invariant-loop-v
invariant-loop-v l = AreThose (Reads l.graph l.marks) (take l.v-index l.active) l.reads
