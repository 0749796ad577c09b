use Rattle.std.proofs.Common.{◌≡◌, ◌*◌, ◌≤◌, take}
use Rattle.std.specs.Prelude.{sum_by}
use Rattle.graph_model.specs.Plans.{finite_copy}
use Rattle.plan_model.proofs.weights.all_copies.Given as goal

abbrev pub invariant-loop-version : goal.invariant-loop-version
invariant-loop-version l = (l.total ≡ sum_by (finite_copy l.weights) (take l.version-index l.versions)) × (l.total ≤ l.version-index * 72057594037927936)
