use Rattle.std.proofs.Common.{length}
use Rattle.node_intake.specs.Taking.{IsCutOff}
use Rattle.node_intake.proofs.frames.cut_off.Given as goal

abbrev pub invariant-loop-body : goal.invariant-loop-body
invariant-loop-body l = IsCutOff l.initial.framer l.bodies.items l.framer

abbrev pub decreases-loop-body : goal.decreases-loop-body
decreases-loop-body l = length l.framer.bytes
