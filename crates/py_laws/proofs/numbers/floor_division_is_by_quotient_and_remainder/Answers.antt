use Rattle.py_laws.proofs.Dividing.{floor_divides, alone}
use Rattle.py_laws.proofs.numbers.floor_division_is_by_quotient_and_remainder.Goals as goal

pub returns-clause-divides : goal.returns-clause-divides
returns-clause-divides c = floor_divides

pub returns-clause-alone : goal.returns-clause-alone
returns-clause-alone c = alone
