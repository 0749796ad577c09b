use Rattle.std.proofs.Common.{ap, arith}
use Rattle.std.specs.Prelude.{sum_by}
use Rattle.graph_model.specs.Plans.{copy_cost, rerun_cost}
use Rattle.plan_model.proofs.Costing.{cost_within}
use Rattle.plan_model.proofs.costs.cost.Goals as goal

pub cost_of_copies-requires-clause-fits : goal.cost_of_copies-requires-clause-fits
cost_of_copies-requires-clause-fits c =
    let t = c.requires.weights.total in
    let h = cost_within c.args.graph.now c.args.weights.now c.args.plan.now c.requires.names c.requires.feasible in
    let e = ap (sum_by (copy_cost c.args.graph.now c.args.weights.now)) c.as_slice.ensures in
    omega (arith, t, h, e)

pub cost_of_reruns-requires-clause-fits : goal.cost_of_reruns-requires-clause-fits
cost_of_reruns-requires-clause-fits c =
    let t = c.requires.weights.total in
    let h = cost_within c.args.graph.now c.args.weights.now c.args.plan.now c.requires.names c.requires.feasible in
    let e = ap (sum_by (rerun_cost c.args.graph.now c.args.weights.now)) c.as_slice-2.ensures in
    omega (arith, t, h, e)

pub overflow_add-result : goal.overflow_add-result
overflow_add-result c =
    let t = c.requires.weights.total in
    let h = cost_within c.args.graph.now c.args.weights.now c.args.plan.now c.requires.names c.requires.feasible in
    let d = ap (sum_by (copy_cost c.args.graph.now c.args.weights.now)) c.as_slice.ensures in
    let e = ap (sum_by (rerun_cost c.args.graph.now c.args.weights.now)) c.as_slice-2.ensures in
    let m = c.cost_of_copies.ensures in
    let n = c.cost_of_reruns.ensures in
    omega (arith, t, h, d, e, m, n)
