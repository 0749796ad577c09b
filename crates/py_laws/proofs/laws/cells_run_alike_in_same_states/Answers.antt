use Rattle.py_laws.proofs.Framing.{renamed}
use Rattle.py_laws.proofs.laws.cells_run_alike_in_same_states.Goals as goal

pub returns : goal.returns
returns c = renamed
