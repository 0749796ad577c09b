use Rattle.session_core.proofs.Happening.{opened_goes_on}
use Rattle.session_core.proofs.laws.each_session_is_one_legal_history.Goals as goal

pub returns-clause-legal : goal.returns-clause-legal
returns-clause-legal g _ = λ hosts host request channel events s there happen. (opened_goes_on g.E.Engine.meaning hosts host request channel events s there happen).legal

pub returns-clause-main : goal.returns-clause-main
returns-clause-main g _ = λ hosts host request channel events s there happen. (opened_goes_on g.E.Engine.meaning hosts host request channel events s there happen).holds.main

pub returns-clause-control : goal.returns-clause-control
returns-clause-control g _ = λ hosts host request channel events s there happen. (opened_goes_on g.E.Engine.meaning hosts host request channel events s there happen).holds.control

pub returns-clause-seated : goal.returns-clause-seated
returns-clause-seated g _ = λ hosts host request channel events s there happen. (opened_goes_on g.E.Engine.meaning hosts host request channel events s there happen).seated
