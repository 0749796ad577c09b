use Rattle.py_laws.proofs.Joining.{reached_only}
use Rattle.py_laws.proofs.laws.sameness_is_of_what_is_reached.Goals as goal

pub returns : goal.returns
returns c = reached_only
