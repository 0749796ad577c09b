use Rattle.std.proofs.Common.{ℕ, ◌<◌, get_or}
use Rattle.cut_network.specs.Drawn.{HasDrawn}
use Rattle.cut_network.proofs.stuck.first_drawn.Given as goal

abbrev pub invariant-loop-c : goal.invariant-loop-c
invariant-loop-c l = (k d : ℕ) → k < l.c-index → HasDrawn l.graph (get_or l.cells k d) → ⊥
