use Rattle.std.proofs.Common.{ℕ, ◌+◌, ◌<◌}
use Rattle.graph_model.specs.Graphs.{IsStuck}
use Rattle.cut_network.proofs.stuck.first_stuck.Given as goal

abbrev pub invariant-loop-before : goal.invariant-loop-before
invariant-loop-before l = (u d : ℕ) → u < l.before + 1 → IsStuck l.graph u d → ⊥
