use Rattle.std.proofs.Common.{◌≡◌, length}
use Rattle.py_frames.specs.Forced.{unless_below, forced_in}
use Rattle.py_frames.proofs.forcing.forced_in.Given as goal

abbrev pub invariant-loop-frame : goal.invariant-loop-frame
invariant-loop-frame l = forced_in l.fn.targets l.left l.alone (unless_below l.inside l.tight) l.tight ≡ forced_in l.fn.targets l.fn.frames l.fn.operand (unless_below l.fn.below l.fn.inner) l.fn.inner

abbrev pub decreases-loop-frame : goal.decreases-loop-frame
decreases-loop-frame l = length l.left
