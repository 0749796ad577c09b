use Rattle.replay_laws.proofs.Canonical.{tidied_equal}
use Rattle.replay_laws.proofs.Tidying.{tidied_same, tidied_size}
use Rattle.replay_laws.proofs.Renumbering.{can_be_tidied}
use Rattle.replay_laws.proofs.laws.tidying_keeps_the_state.Goals as goal

pub returns-clause-same : goal.returns-clause-same
returns-clause-same c = tidied_same

pub returns-clause-objects : goal.returns-clause-objects
returns-clause-objects c = λ s t u order h tidied objects. tidied_size s t u h tidied order objects

pub returns-clause-equal : goal.returns-clause-equal
returns-clause-equal c = λ s t u w same a b. tidied_equal s t u w same a b

pub returns-clause-done : goal.returns-clause-done
returns-clause-done c = λ t closed. can_be_tidied t closed
