use Rattle.unmoved_sessions.proofs.Ended.{stays_dead}
use Rattle.unmoved_sessions.proofs.laws.a_dead_session_stays_dead.Goals as goal

pub returns : goal.returns
returns g _ = λ hosts. stays_dead g.E.Engine.meaning hosts
