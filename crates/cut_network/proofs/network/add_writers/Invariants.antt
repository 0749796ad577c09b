use Rattle.std.proofs.Common.{◌≡◌, map, take}
use Rattle.cut_network.specs.Arcs.{more, node_count, writer_numbers}
use Rattle.cut_network.proofs.network.add_writers.Given as goal

abbrev pub invariant-loop-i : goal.invariant-loop-i
invariant-loop-i l = record {
  nodes : l.net.nodes ≡ node_count l.graph;
  arcs : l.net ≡ more l.initial.net (map (writer_numbers l.graph) (take l.i l.active));
}
