use Rattle.session_core.specs.Asks.{is_main, is_control}
use Rattle.session_core.proofs.Once.{run_once}
use Rattle.session_core.proofs.laws.each_answer_is_given_once_by_the_owner_then.Goals as goal

pub returns-clause-main : goal.returns-clause-main
returns-clause-main g _ = λ hosts journal k r legal here. run_once g.E.Engine.meaning hosts is_main journal k r legal here

pub returns-clause-control : goal.returns-clause-control
returns-clause-control g _ = λ hosts journal k r legal here. run_once g.E.Engine.meaning hosts is_control journal k r legal here
