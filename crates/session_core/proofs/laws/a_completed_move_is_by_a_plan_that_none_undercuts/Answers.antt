use Rattle.session_core.proofs.Headline.{adopted}
use Rattle.session_core.proofs.laws.a_completed_move_is_by_a_plan_that_none_undercuts.Goals as goal

pub returns : goal.returns
returns g c = λ hosts. adopted g.E.Engine.meaning hosts g.met.E.Engine.one_graph g.met.E.Engine.graphs c.no_plan_undercuts.ensures
