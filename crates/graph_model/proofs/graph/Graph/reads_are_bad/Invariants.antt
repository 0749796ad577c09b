use Rattle.std.proofs.Common.{ℕ, ◌<◌, get_or}
use Rattle.graph_model.specs.Faults.{CannotRead}
use Rattle.graph_model.proofs.graph.Graph.reads_are_bad.Given as goal

abbrev pub invariant-loop-v : goal.invariant-loop-v
invariant-loop-v l = (k d : ℕ) → k < l.v-index → CannotRead l.self l.c (get_or l.reads k d) → ⊥
