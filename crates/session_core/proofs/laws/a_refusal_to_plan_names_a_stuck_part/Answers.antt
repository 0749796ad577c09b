use Rattle.session_core.proofs.Headline.{stuck}
use Rattle.session_core.proofs.laws.a_refusal_to_plan_names_a_stuck_part.Goals as goal

pub returns : goal.returns
returns g _ = stuck g.E.Engine.meaning
