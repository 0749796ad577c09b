use Rattle.plain_states.proofs.Cells.{plain_after, few_looked, plain_empty}
use Rattle.plain_states.proofs.laws.cells_keep_states_plain.Goals as goal

pub returns-clause-begins : goal.returns-clause-begins
returns-clause-begins c = plain_empty

pub returns-clause-cells : goal.returns-clause-cells
returns-clause-cells c = λ body draws s constants words h. plain_after body draws s constants words h

pub returns-clause-looked : goal.returns-clause-looked
returns-clause-looked c = λ body draws s constants words h. few_looked body draws s constants words h
