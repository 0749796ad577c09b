use Rattle.plan_model.proofs.Flowing.{within-length}
use Rattle.plan_model.proofs.certainty.check_plan.Goals as goal

pub value-carried-requires : goal.value-carried-requires
value-carried-requires c = within-length _ _ c.in_default-check_flow.ensures.within
