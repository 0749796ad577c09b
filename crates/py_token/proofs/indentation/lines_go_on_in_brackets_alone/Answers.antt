use Rattle.py_token.proofs.Joined.{one_line}
use Rattle.py_token.proofs.indentation.lines_go_on_in_brackets_alone.Goals as goal

pub returns : goal.returns
returns c = λ code before after word next h k z. one_line code before after word next h k z
