use Rattle.every_history.proofs.Names.{has_names}
use Rattle.every_history.proofs.run_laws.cells_of_codes_have_names.Goals as goal

pub returns : goal.returns
returns c = has_names
