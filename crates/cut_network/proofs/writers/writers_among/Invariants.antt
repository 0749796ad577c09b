use Rattle.cut_network.proofs.Writing.{WritersSo}
use Rattle.cut_network.proofs.writers.writers_among.Given as goal

abbrev pub invariant-loop-v : goal.invariant-loop-v
invariant-loop-v l = WritersSo l.graph l.reads l.writers.items l.v-index
