use Rattle.py_frames.proofs.laws.the_machine_sees_targets.Goals as goal
use Rattle.py_frames.proofs.Targets.{reading-seen}

pub returns : goal.returns
returns c = reading-seen
