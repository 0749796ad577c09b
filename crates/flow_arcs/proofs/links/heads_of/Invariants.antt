use Rattle.std.proofs.Common.{◌≡◌, ◌++◌, drop}
use Rattle.flow_arcs.specs.Pairs.{heads}
use Rattle.flow_arcs.proofs.links.heads_of.Given as goal

abbrev pub invariant-loop-arc : goal.invariant-loop-arc
invariant-loop-arc l = l.to.items ++ heads (drop l.arc-index l.arcs) ≡ heads l.arcs
