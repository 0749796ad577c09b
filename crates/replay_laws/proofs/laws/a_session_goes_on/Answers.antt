use Rattle.std.proofs.Common.{length}
use Rattle.run_graph.specs.RunLists.{state_after}
use Rattle.replay_laws.proofs.GoingOn.{entry_alike, begins_so, one_more}
use Rattle.replay_laws.proofs.laws.a_session_goes_on.Goals as goal

pub returns-clause-begins : goal.returns-clause-begins
returns-clause-begins c = begins_so

pub returns-clause-does_the_same : goal.returns-clause-does_the_same
returns-clause-does_the_same c = λ read size entries g t stands e. entry_alike read e (state_after read entries (length entries)) t stands.same

pub returns-clause-goes_on : goal.returns-clause-goes_on
returns-clause-goes_on c = λ read size entries g t stands tells e uses r k is next. one_more read size entries g t stands tells e uses r k is next
