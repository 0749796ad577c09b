use Rattle.nb_outside.proofs.Feeding.{fed_more}
use Rattle.nb_outside.proofs.laws.draws_add_up.Goals as goal

pub returns-clause-more : goal.returns-clause-more
returns-clause-more _ = fed_more
