use Rattle.std.proofs.Common.{◌≡◌, length}
use Rattle.py_token.specs.Lines.{shallower}
use Rattle.py_token.specs.Bodies.{with_given}
use Rattle.py_token.proofs.blocks.shallower.Given as goal

abbrev pub invariant-loop-top : goal.invariant-loop-top
invariant-loop-top l = with_given l.given (shallower l.at l.depth l.depths) ≡ shallower l.at l.depth l.initial.depths

abbrev pub decreases-loop-top : goal.decreases-loop-top
decreases-loop-top l = length l.depths
