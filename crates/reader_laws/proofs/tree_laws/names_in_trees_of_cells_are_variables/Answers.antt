use Rattle.reader_laws.proofs.Tokens.{cell_names}
use Rattle.reader_laws.proofs.tree_laws.names_in_trees_of_cells_are_variables.Goals as goal

pub returns : goal.returns
returns c = cell_names
