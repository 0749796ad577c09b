use Rattle.std.proofs.Common.{IsTrue}
use Rattle.std.specs.Prelude.{Contains}
use Rattle.py_laws.proofs.Sameness.{same_through, states_through}
use Rattle.py_laws.proofs.laws.sameness_goes_on.Goals as goal

pub returns-clause-over_a_list : goal.returns-clause-over_a_list
returns-clause-over_a_list c = λ names. same_through (Contains names)

pub returns-clause-over_a_set : goal.returns-clause-over_a_set
returns-clause-over_a_set c = λ named. same_through (λ name. IsTrue (named name))

pub returns-clause-over_all : goal.returns-clause-over_all
returns-clause-over_all c = states_through
