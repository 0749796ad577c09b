use Rattle.reader_laws.proofs.Cells.{cell_allowed, body_allowed}
use Rattle.reader_laws.proofs.function_laws.functions_are_what_their_texts_read_as.Goals as goal

pub returns-clause-cells : goal.returns-clause-cells
returns-clause-cells c = cell_allowed

pub returns-clause-functions : goal.returns-clause-functions
returns-clause-functions c = body_allowed
