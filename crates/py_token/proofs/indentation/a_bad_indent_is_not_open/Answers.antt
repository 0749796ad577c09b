use Rattle.py_token.proofs.Refused.{misfits}
use Rattle.py_token.proofs.indentation.a_bad_indent_is_not_open.Goals as goal

pub returns : goal.returns
returns c = λ code at h. misfits code at h
