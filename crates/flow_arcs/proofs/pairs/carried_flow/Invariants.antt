use Rattle.std.proofs.Common.{◌≡◌, ◌*◌, ◌++◌, drop}
use Rattle.flow_arcs.specs.Pairs.{carried}
use Rattle.flow_arcs.proofs.pairs.carried_flow.Given as goal

abbrev pub invariant-loop-i : goal.invariant-loop-i
invariant-loop-i l = l.on.items ++ carried (drop (2 * l.i) l.rest) ≡ carried l.rest
