use Rattle.std.proofs.Common.{◌≡◌, length}
use Rattle.flow_arcs.proofs.levels.rising_levels.Given as goal

abbrev pub invariant-walks : goal.invariant-walks
invariant-walks l = length l.level.items ≡ l.net.nodes
