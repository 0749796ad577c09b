use Rattle.std.proofs.Common.{◌≡◌, ◌*◌, ◌≤◌, take}
use Rattle.std.specs.Prelude.{sum_by}
use Rattle.graph_model.specs.Plans.{finite_rerun}
use Rattle.plan_model.proofs.weights.all_reruns.Given as goal

abbrev pub invariant-loop-cell : goal.invariant-loop-cell
invariant-loop-cell l = (l.total ≡ sum_by (finite_rerun l.weights) (take l.cell-index l.cells)) × (l.total ≤ l.cell-index * 72057594037927936)
