use Rattle.std.proofs.Common.{ℕ, ◌+◌, ◌<◌}
use Rattle.cut_network.specs.Drawn.{HasDrawn}
use Rattle.cut_network.proofs.stuck.some_drew.Given as goal

abbrev pub invariant-loop-before : goal.invariant-loop-before
invariant-loop-before l = (m : ℕ) → m < l.before + 1 → HasDrawn l.graph m → ⊥
