use Rattle.py_blocks.proofs.TooDeep.{tells-cells}
use Rattle.py_blocks.proofs.laws.a_cell_tells_whether_it_is_too_deep.Goals as goal

pub returns : goal.returns
returns c = tells-cells
