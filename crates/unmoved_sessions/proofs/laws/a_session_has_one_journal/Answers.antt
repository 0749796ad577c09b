use Rattle.unmoved_sessions.proofs.OneJournal.{one_journal}
use Rattle.unmoved_sessions.proofs.laws.a_session_has_one_journal.Goals as goal

pub returns : goal.returns
returns c = λ hosts gives s es fs none one two had had_too. one_journal hosts gives s none es fs one two had had_too
