use Rattle.plan_model.proofs.Uncut.{finite_cut_is_plan}
use Rattle.plan_model.proofs.laws.a_least_cut_is_a_feasible_plan.Goals as goal

pub returns : goal.returns
returns c = λ g w side is a cut l. finite_cut_is_plan g w side is cut l
