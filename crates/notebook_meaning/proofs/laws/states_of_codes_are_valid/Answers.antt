use Rattle.every_history.proofs.Valid.{empty_valid, cell_valid}
use Rattle.notebook_meaning.proofs.Validity.{valid_at, few_steps}
use Rattle.notebook_meaning.proofs.laws.states_of_codes_are_valid.Goals as goal

pub returns-clause-begins : goal.returns-clause-begins
returns-clause-begins c = empty_valid

pub returns-clause-cell : goal.returns-clause-cell
returns-clause-cell c = λ e s u v. cell_valid e s u v

pub returns-clause-states : goal.returns-clause-states
returns-clause-states c = λ cells n codes. valid_at cells n codes

pub returns-clause-steps : goal.returns-clause-steps
returns-clause-steps c = λ cells n. few_steps cells n
