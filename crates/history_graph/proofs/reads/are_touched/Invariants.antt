use Rattle.std.proofs.Common.{◌≡◌, ℕ, ◌<◌, true, List, get_or}
use Rattle.history_graph.specs.Touched.{is_read_by}
use Rattle.history_graph.proofs.reads.are_touched.Given as goal

abbrev pub invariant-loop-name : goal.invariant-loop-name
invariant-loop-name l = (k : ℕ) (d : List ℕ) → k < l.name-index → is_read_by l.marks l.many (get_or l.names k d) ≡ true → ⊥
