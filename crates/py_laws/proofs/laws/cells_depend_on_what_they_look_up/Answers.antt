use Rattle.py_laws.proofs.Framing.{framed}
use Rattle.py_laws.proofs.Agreeing.{framed_agreeing}
use Rattle.py_laws.proofs.laws.cells_depend_on_what_they_look_up.Goals as goal

pub returns-clause-same_draws : goal.returns-clause-same_draws
returns-clause-same_draws c = framed

pub returns-clause-agreeing_draws : goal.returns-clause-agreeing_draws
returns-clause-agreeing_draws c = framed_agreeing
