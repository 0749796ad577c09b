use Rattle.std.proofs.Common.{◌≡◌, take}
use Rattle.std.specs.Prelude.{sum_by}
use Rattle.graph_model.specs.Plans.{copy_cost}
use Rattle.plan_model.proofs.costs.cost_of_copies.Given as goal

abbrev pub invariant-loop-v : goal.invariant-loop-v
invariant-loop-v l = l.total ≡ sum_by (copy_cost l.graph l.weights) (take l.v-index l.copied)
