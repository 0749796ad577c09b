use Rattle.py_grammar.proofs.Failing.{read_iff_stands}
use Rattle.py_grammar.proofs.laws.open_forms_spell_what_is_read.Goals as goal

pub returns : goal.returns
returns c = read_iff_stands
