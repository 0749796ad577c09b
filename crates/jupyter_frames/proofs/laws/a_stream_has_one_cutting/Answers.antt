use Rattle.jupyter_frames.proofs.Cutting.{one_cutting}
use Rattle.jupyter_frames.proofs.laws.a_stream_has_one_cutting.Goals as goal

pub returns : goal.returns
returns _ = one_cutting
