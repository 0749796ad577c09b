use Rattle.plan_model.proofs.Failures.{nothing_fails}
use Rattle.plan_model.proofs.feasibility.feasible.Goals as goal

pub returns-in-None : goal.returns-in-None
returns-in-None c = nothing_fails c.args.graph.now c.args.plan.now c.in_default.ensures c.in-None.ensures
