use Rattle.py_frames.proofs.laws.what_is_open_can_end_without_more.Goals as goal
use Rattle.py_frames.proofs.Ended.{ending-adds}

pub returns : goal.returns
returns c = ending-adds
