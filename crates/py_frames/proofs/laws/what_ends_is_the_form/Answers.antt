use Rattle.py_frames.proofs.laws.what_ends_is_the_form.Goals as goal
use Rattle.py_frames.proofs.Wholes.{reading-ended}

pub returns : goal.returns
returns c = reading-ended
