use Rattle.std.proofs.Common.{ℕ, ◌+◌, ◌<◌}
use Rattle.graph_model.specs.Faults.{HasBadRead}
use Rattle.graph_model.proofs.graph.Graph.first_bad_read.Given as goal

abbrev pub invariant-loop-before : goal.invariant-loop-before
invariant-loop-before l = (m : ℕ) → m < l.before + 1 → HasBadRead l.self m → ⊥
