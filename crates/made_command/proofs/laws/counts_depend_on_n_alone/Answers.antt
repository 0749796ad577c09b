use Rattle.made_command.proofs.Alone.{one_count}
use Rattle.made_command.proofs.laws.counts_depend_on_n_alone.Goals as goal

pub returns : goal.returns
returns c = one_count
