use Rattle.std.proofs.Common.{ℕ, ◌<◌, List, get_or}
use Rattle.graph_model.specs.Walks.{ClashesBy}
use Rattle.graph_model.proofs.graph.Graph.some_clashes.Given as goal

abbrev pub invariant-loop-name : goal.invariant-loop-name
invariant-loop-name l = (k : ℕ) (d : List ℕ) → k < l.name-index → ClashesBy l.self l.v l.version (get_or l.version.names k d) → ⊥
