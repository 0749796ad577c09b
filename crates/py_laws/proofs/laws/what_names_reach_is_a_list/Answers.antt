use Rattle.py_laws.proofs.Reached.{reach_list}
use Rattle.py_laws.proofs.laws.what_names_reach_is_a_list.Goals as goal

pub returns : goal.returns
returns c = λ names s closed. reach_list s closed names
