use Rattle.session_core.proofs.Happening.{opened_goes_on}
use Rattle.session_core.proofs.Once.{answered_in_order}
use Rattle.session_core.proofs.laws.the_kth_cell_is_the_kth_admitted_request.Goals as goal

pub returns-clause-main : goal.returns-clause-main
returns-clause-main g _ = λ hosts host request channel events s k there happen less.
    answered_in_order _ _ _ k (opened_goes_on g.E.Engine.meaning hosts host request channel events s there happen).holds.main less

pub returns-clause-control : goal.returns-clause-control
returns-clause-control g _ = λ hosts host request channel events s k there happen less.
    answered_in_order _ _ _ k (opened_goes_on g.E.Engine.meaning hosts host request channel events s there happen).holds.control less
