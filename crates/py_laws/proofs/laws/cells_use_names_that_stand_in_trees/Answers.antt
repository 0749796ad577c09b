use Rattle.py_laws.proofs.Knowing.{used, functions_after}
use Rattle.py_laws.proofs.laws.cells_use_names_that_stand_in_trees.Goals as goal

pub returns-clause-names : goal.returns-clause-names
returns-clause-names c = λ test body draws s closed stand functions name w. used test body draws s closed stand functions name w

pub returns-clause-functions : goal.returns-clause-functions
returns-clause-functions c = λ test body draws s closed stand functions. functions_after test body draws s closed stand functions
