use Rattle.py_machine.specs.Runs.{start}
use Rattle.py_meaning.specs.Meaning.{cell}
use Rattle.py_laws.proofs.Constant.{constant}
use Rattle.py_laws.proofs.Members.{no_number}
use Rattle.py_laws.proofs.laws.cells_change_no_tuple.Goals as goal

pub returns-clause-stay : goal.returns-clause-stay
returns-clause-stay c = λ body draws s at items h. let w = constant (cell body) draws (start s) in w.stay at items h

pub returns-clause-unmarked : goal.returns-clause-unmarked
returns-clause-unmarked c = λ body draws s at items h i. let w = constant (cell body) draws (start s) in no_number at (w.unmarked at items h i)
