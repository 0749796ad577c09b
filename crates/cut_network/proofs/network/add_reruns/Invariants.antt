use Rattle.std.proofs.Common.{◌≡◌, map}
use Rattle.graph_model.specs.Networks.{count_up}
use Rattle.cut_network.specs.Arcs.{more, node_count, rerun_numbers}
use Rattle.cut_network.proofs.network.add_reruns.Given as goal

abbrev pub invariant-loop-before : goal.invariant-loop-before
invariant-loop-before l = record {
  nodes : l.net.nodes ≡ node_count l.graph;
  arcs : l.net ≡ more l.initial.net (map (rerun_numbers l.graph l.weights) (count_up 1 l.before));
}
