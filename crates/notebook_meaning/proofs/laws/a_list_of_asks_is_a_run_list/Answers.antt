use Rattle.notebook_meaning.proofs.Lists.{list_of, codes_of}
use Rattle.notebook_meaning.proofs.laws.a_list_of_asks_is_a_run_list.Goals as goal

pub returns-clause-run_list : goal.returns-clause-run_list
returns-clause-run_list c = λ served run. list_of served run

pub returns-clause-codes : goal.returns-clause-codes
returns-clause-codes c = λ served run. codes_of served run
