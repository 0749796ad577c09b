use Rattle.py_frames.proofs.laws.the_targets_are_those_of_the_forms.Goals as goal
use Rattle.py_frames.proofs.Seen.{exprs-agree}

pub returns : goal.returns
returns c = exprs-agree
