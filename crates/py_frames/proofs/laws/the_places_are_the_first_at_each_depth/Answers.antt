use Rattle.py_frames.proofs.laws.the_places_are_the_first_at_each_depth.Goals as goal
use Rattle.py_frames.proofs.Rows.{exprs-row}

pub returns : goal.returns
returns c = λ place fair exprs rest depth. (exprs-row place fair exprs rest depth).is
