use Rattle.py_heap.proofs.OneOrder.{one_list}
use Rattle.py_heap.proofs.laws.first_reached_is_one_list.Goals as goal

pub returns : goal.returns
returns c = one_list
