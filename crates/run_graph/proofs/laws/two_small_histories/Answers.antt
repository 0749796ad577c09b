use Rattle.run_graph.proofs.JoinedAndSplit as joined
use Rattle.run_graph.proofs.DeletedAndBound as deleted
use Rattle.run_graph.proofs.laws.two_small_histories.Goals as goal

pub returns-clause-joined : goal.returns-clause-joined
returns-clause-joined c = joined.is_history

pub returns-clause-deleted : goal.returns-clause-deleted
returns-clause-deleted c = deleted.is_history
