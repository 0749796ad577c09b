use Rattle.std.proofs.Common.{◌≡◌}
use Rattle.std.specs.List.{flat_map}
use Rattle.graph_model.specs.Networks.{count_up}
use Rattle.cut_network.specs.Arcs.{more, node_count, reads_numbers}
use Rattle.cut_network.proofs.network.add_reads.Given as goal

abbrev pub invariant-loop-before : goal.invariant-loop-before
invariant-loop-before l = record {
  nodes : l.net.nodes ≡ node_count l.graph;
  arcs : l.net ≡ more l.initial.net (flat_map (reads_numbers l.graph) (count_up 1 l.before));
}
