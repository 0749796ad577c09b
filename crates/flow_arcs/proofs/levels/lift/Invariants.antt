use Rattle.std.proofs.Common.{◌≡◌, length}
use Rattle.flow_arcs.proofs.levels.lift.Given as goal

abbrev pub invariant-loop-arc : goal.invariant-loop-arc
invariant-loop-arc l = length l.level.items ≡ length l.fn.level.items
