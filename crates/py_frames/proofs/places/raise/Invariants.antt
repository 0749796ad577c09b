use Rattle.py_frames.proofs.Sides.{Raised}
use Rattle.py_frames.proofs.places.raise.Given as goal

abbrev pub invariant-loop-index : goal.invariant-loop-index
invariant-loop-index l = Raised l.fn.long l.short l.long l.gap l.index
