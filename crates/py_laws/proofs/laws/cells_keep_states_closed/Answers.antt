use Rattle.py_laws.proofs.Closing.{closed_after}
use Rattle.py_laws.proofs.laws.cells_keep_states_closed.Goals as goal

pub returns : goal.returns
returns c = closed_after
