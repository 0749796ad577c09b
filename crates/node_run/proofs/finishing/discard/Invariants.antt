use Rattle.std.specs.Vec.{vec_len}
use Rattle.node_run.proofs.finishing.discard.Given as goal

abbrev pub invariant-loop-cell : goal.invariant-loop-cell
invariant-loop-cell g l = Unit {0}

abbrev pub decreases-loop-cell : goal.decreases-loop-cell
decreases-loop-cell g l = vec_len l.cells
