use Rattle.py_blocks.proofs.Deep.{statements-row}
use Rattle.py_blocks.proofs.laws.the_places_are_the_first_at_each_depth.Goals as goal

pub returns : goal.returns
returns c = λ place fair ss rest d. (statements-row place fair ss rest d).is
