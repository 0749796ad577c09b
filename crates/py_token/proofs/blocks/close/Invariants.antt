use Rattle.std.proofs.Common.{◌≡◌, ◌++◌, length}
use Rattle.py_token.specs.Lines.{closing}
use Rattle.py_token.proofs.blocks.close.Given as goal

abbrev pub invariant-loop-depth : goal.invariant-loop-depth
invariant-loop-depth l = l.tokens ++ closing l.at l.depths ≡ l.initial.tokens ++ closing l.at l.initial.depths

abbrev pub decreases-loop-depth : goal.decreases-loop-depth
decreases-loop-depth l = length l.depths
