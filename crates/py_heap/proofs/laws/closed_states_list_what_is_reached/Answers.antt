use Rattle.py_heap.proofs.Reached.{reached_live, reach_list}
use Rattle.py_heap.proofs.laws.closed_states_list_what_is_reached.Goals as goal

pub returns-clause-live : goal.returns-clause-live
returns-clause-live c = λ s names at closed r. reached_live s closed names at r

pub returns-clause-listed : goal.returns-clause-listed
returns-clause-listed c = λ s names closed. reach_list s closed names
