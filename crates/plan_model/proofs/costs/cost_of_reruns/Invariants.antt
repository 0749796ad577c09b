use Rattle.std.proofs.Common.{◌≡◌, take}
use Rattle.std.specs.Prelude.{sum_by}
use Rattle.graph_model.specs.Plans.{rerun_cost}
use Rattle.plan_model.proofs.costs.cost_of_reruns.Given as goal

abbrev pub invariant-loop-c : goal.invariant-loop-c
invariant-loop-c l = l.total ≡ sum_by (rerun_cost l.graph l.weights) (take l.c-index l.rerun)
