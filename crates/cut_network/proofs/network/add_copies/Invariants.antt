use Rattle.std.proofs.Common.{◌≡◌, map, take}
use Rattle.cut_network.specs.Arcs.{more, node_count, copy_numbers}
use Rattle.cut_network.proofs.network.add_copies.Given as goal

abbrev pub invariant-loop-i : goal.invariant-loop-i
invariant-loop-i l = record {
  nodes : l.net.nodes ≡ node_count l.graph;
  arcs : l.net ≡ more l.initial.net (map (copy_numbers l.graph l.weights) (take l.i l.active));
}
