use Rattle.std.specs.Prelude.{[]}
use Rattle.unmoved_sessions.proofs.Unmoved.{session_answered, none_later, without_death}
use Rattle.unmoved_sessions.proofs.laws.a_session_of_cells_is_one_that_never_moves.Goals as goal

pub returns : goal.returns
returns c = λ hosts answers s es is cells none.
    let (entries, begins, answered) = session_answered hosts answers s es is cells in
    (entries, begins, without_death s.host [] s.requests entries answered (none_later s.host s.request s.channel es entries begins none))
