use Rattle.py_laws.proofs.Within.{framed_within}
use Rattle.py_laws.proofs.laws.cells_pair_what_names_reach.Goals as goal

pub returns : goal.returns
returns c = framed_within
