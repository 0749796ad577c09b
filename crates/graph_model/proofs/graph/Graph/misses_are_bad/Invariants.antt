use Rattle.std.proofs.Common.{ℕ, ◌<◌, List, get_or}
use Rattle.graph_model.specs.Faults.{WrittenBefore}
use Rattle.graph_model.proofs.graph.Graph.misses_are_bad.Given as goal

abbrev pub invariant-loop-name : goal.invariant-loop-name
invariant-loop-name l = (k : ℕ) (d : List ℕ) → k < l.name-index → WrittenBefore l.self l.c (get_or l.names k d) → ⊥
