use Rattle.py_frames.proofs.closing.closes.Given as goal
use Rattle.std.proofs.Common.{◌≡◌, length}
use Rattle.py_frames.specs.Values.{closes}

abbrev pub invariant-loop-frame : goal.invariant-loop-frame
invariant-loop-frame l = closes l.fn.least l.left l.value ≡ closes l.fn.least l.fn.frames l.fn.last

abbrev pub decreases-loop-frame : goal.decreases-loop-frame
decreases-loop-frame l = length l.left
