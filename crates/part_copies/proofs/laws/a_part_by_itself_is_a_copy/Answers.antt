use Rattle.part_copies.proofs.Copied.{copy_closed, copy_same}
use Rattle.part_copies.proofs.laws.a_part_by_itself_is_a_copy.Goals as goal

pub returns-clause-closed : goal.returns-clause-closed
returns-clause-closed c = λ s names closed. copy_closed s names closed

pub returns-clause-same : goal.returns-clause-same
returns-clause-same c = λ s names closed. copy_same s names closed
