use Rattle.py_grammar.proofs.Whole.{read_is, is_read}
use Rattle.py_grammar.proofs.laws.what_is_read_is_a_cell.Goals as goal

pub returns : goal.returns
returns c = λ tokens cell. (read_is tokens cell, is_read tokens cell)
