use Rattle.py_token.proofs.Indented.{are_indented}
use Rattle.py_token.proofs.indentation.lines_are_indented.Goals as goal

pub returns : goal.returns
returns c = λ code tokens h. are_indented code tokens h
