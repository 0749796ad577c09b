use Rattle.py_frames.proofs.laws.the_machine_tells_what_is_outermost.Goals as goal
use Rattle.py_frames.proofs.Outermost.{reading-narrow, reading-one, reading-begun}

pub returns : goal.returns
returns c = λ place x rest. (reading-narrow place x rest, reading-one place x rest, reading-begun place x rest)
