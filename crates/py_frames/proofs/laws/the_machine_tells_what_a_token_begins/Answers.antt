use Rattle.py_frames.proofs.Begins.{reading-begins, reading-may}
use Rattle.py_frames.proofs.laws.the_machine_tells_what_a_token_begins.Goals as goal

pub returns : goal.returns
returns c = λ place x t rest. (reading-begins place x t rest, reading-may place x rest)
