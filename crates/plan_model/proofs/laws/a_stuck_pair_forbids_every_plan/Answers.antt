use Rattle.plan_model.proofs.Stuck.{stuck_forbids}
use Rattle.plan_model.proofs.laws.a_stuck_pair_forbids_every_plan.Goals as goal

pub returns : goal.returns
returns c = stuck_forbids
