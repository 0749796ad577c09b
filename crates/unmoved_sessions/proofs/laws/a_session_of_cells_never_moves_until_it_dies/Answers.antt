use Rattle.unmoved_sessions.proofs.Unmoved.{session_answered}
use Rattle.unmoved_sessions.proofs.laws.a_session_of_cells_never_moves_until_it_dies.Goals as goal

pub returns : goal.returns
returns c = λ hosts answers s es is cells. session_answered hosts answers s es is cells
