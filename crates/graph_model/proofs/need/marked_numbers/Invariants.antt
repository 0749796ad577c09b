use Rattle.graph_model.proofs.Needing.{NumbersSo}
use Rattle.graph_model.proofs.need.marked_numbers.Given as goal

abbrev pub invariant-loop-c : goal.invariant-loop-c
invariant-loop-c l = NumbersSo l.marks l.numbers.items l.c
