use Rattle.reader_laws.proofs.Variables.{in_cell, in_function}
use Rattle.reader_laws.proofs.laws.names_in_trees_are_variables.Goals as goal

pub returns-clause-cells : goal.returns-clause-cells
returns-clause-cells c = in_cell

pub returns-clause-functions : goal.returns-clause-functions
returns-clause-functions c = in_function
