use Rattle.std.proofs.Common.{◌≡◌}
use Rattle.made_command.specs.Made.{stream}
use Rattle.made_command.proofs.stream.frames.Given as goal

abbrev pub invariant-loop-before : goal.invariant-loop-before
invariant-loop-before l = l.out.items ≡ stream l.before
