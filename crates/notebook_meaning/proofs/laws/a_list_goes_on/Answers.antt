use Rattle.notebook_meaning.proofs.Lists.{cells_of_more, goes_on, last_may}
use Rattle.notebook_meaning.proofs.laws.a_list_goes_on.Goals as goal

pub returns-clause-cells : goal.returns-clause-cells
returns-clause-cells c = λ served ask draws. cells_of_more served ask draws

pub returns-clause-goes_on : goal.returns-clause-goes_on
returns-clause-goes_on c = λ served ask draws run no_end may. goes_on served ask draws run no_end may

pub returns-clause-last : goal.returns-clause-last
returns-clause-last c = λ served ask draws run. last_may served ask draws run
