use Rattle.std.proofs.Common.{ℕ, ◌<◌, List, get_or}
use Rattle.history_graph.specs.Sets.{Has}
use Rattle.history_graph.proofs.sets.has_one_of.Given as goal

abbrev pub invariant-loop-name : goal.invariant-loop-name
invariant-loop-name l = (k : ℕ) (d : List ℕ) → k < l.name-index → ¬ Has l.set (get_or l.names k d)
