use Rattle.session_core.specs.Asks.{is_main, is_control}
use Rattle.session_core.proofs.Happening.{opened_goes_on}
use Rattle.session_core.proofs.Once.{waits_or_run_once}
use Rattle.session_core.proofs.laws.each_request_is_run_once_by_the_owner_then.Goals as goal

pub returns-clause-main : goal.returns-clause-main
returns-clause-main g _ = λ hosts host request channel events s k r there happen here.
    let kept = opened_goes_on g.E.Engine.meaning hosts host request channel events s there happen in
    waits_or_run_once g.E.Engine.meaning hosts is_main s.journal _ _ k r kept.legal kept.holds.main here

pub returns-clause-control : goal.returns-clause-control
returns-clause-control g _ = λ hosts host request channel events s k r there happen here.
    let kept = opened_goes_on g.E.Engine.meaning hosts host request channel events s there happen in
    waits_or_run_once g.E.Engine.meaning hosts is_control s.journal _ _ k r kept.legal kept.holds.control here
