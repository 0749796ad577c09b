use Rattle.std.proofs.Common.{IsTrue}
use Rattle.std.specs.Prelude.{Contains}
use Rattle.py_laws.proofs.Sameness.{same_itself, states_themselves}
use Rattle.py_laws.proofs.laws.a_state_is_the_same_as_itself.Goals as goal

pub returns-clause-over_a_list : goal.returns-clause-over_a_list
returns-clause-over_a_list c = λ names s closed. same_itself s closed (Contains names)

pub returns-clause-over_a_set : goal.returns-clause-over_a_set
returns-clause-over_a_set c = λ named s closed. same_itself s closed (λ name. IsTrue (named name))

pub returns-clause-over_all : goal.returns-clause-over_all
returns-clause-over_all c = states_themselves
