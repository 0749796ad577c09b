use Rattle.py_laws.proofs.Looping.{whiles, while_again, fors, for_again}
use Rattle.py_laws.proofs.loops.bounds_of_loops_change_nothing.Goals as goal

pub returns-clause-whiles : goal.returns-clause-whiles
returns-clause-whiles c = whiles

pub returns-clause-fors : goal.returns-clause-fors
returns-clause-fors c = fors

pub returns-clause-while_again : goal.returns-clause-while_again
returns-clause-while_again c = while_again

pub returns-clause-for_again : goal.returns-clause-for_again
returns-clause-for_again c = for_again
