use Rattle.plan_model.proofs.Duality.{certified_is_least}
use Rattle.plan_model.proofs.laws.no_plan_undercuts.Goals as goal

pub returns : goal.returns
returns c = certified_is_least
