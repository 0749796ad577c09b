use Rattle.std.proofs.Common.{◌≡◌, length}
use Rattle.py_blocks.specs.Forced.{enclose}
use Rattle.py_blocks.proofs.forcing.enclose.Given as goal

abbrev pub invariant-loop-outer : goal.invariant-loop-outer
invariant-loop-outer l = enclose l.left l.all ≡ enclose l.fn.outers l.fn.inner

abbrev pub decreases-loop-outer : goal.decreases-loop-outer
decreases-loop-outer l = length l.left
