use Rattle.session_core.proofs.Unmoved.{none_is_of_move, owner_throughout}
use Rattle.session_core.proofs.laws.without_requests_to_move_no_journal_is_sealed.Goals as goal

pub returns-clause-stays : goal.returns-clause-stays
returns-clause-stays g _ = λ hosts. none_is_of_move g.E.Engine.meaning hosts

pub returns-clause-owner : goal.returns-clause-owner
returns-clause-owner g _ = λ hosts. owner_throughout g.E.Engine.meaning hosts
