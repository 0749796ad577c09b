use Rattle.py_frames.proofs.laws.what_is_forced_stays_forced.Goals as goal
use Rattle.py_frames.proofs.Forced.{step-grows}

pub returns : goal.returns
returns c = step-grows
