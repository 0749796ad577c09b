use Rattle.py_frames.proofs.laws.the_machine_reads_the_forms.Goals as goal
use Rattle.py_frames.proofs.Stepped.{step-held}

pub returns : goal.returns
returns c = step-held
