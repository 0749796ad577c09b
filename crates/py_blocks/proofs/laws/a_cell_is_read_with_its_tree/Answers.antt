use Rattle.py_blocks.proofs.Cells.{reads-cells}
use Rattle.py_blocks.proofs.laws.a_cell_is_read_with_its_tree.Goals as goal

pub returns : goal.returns
returns c = reads-cells
