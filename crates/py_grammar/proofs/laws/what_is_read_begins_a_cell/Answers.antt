use Rattle.py_grammar.proofs.Failing.{begins_iff_read}
use Rattle.py_grammar.proofs.laws.what_is_read_begins_a_cell.Goals as goal

pub returns : goal.returns
returns c = begins_iff_read
