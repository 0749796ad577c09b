use Rattle.std.proofs.Common.{◌≡◌, map, take}
use Rattle.cut_network.specs.Arcs.{more, node_count, read_numbers}
use Rattle.cut_network.proofs.network.add_reads_of.Given as goal

abbrev pub invariant-loop-writer : goal.invariant-loop-writer
invariant-loop-writer l = record {
  nodes : l.net.nodes ≡ node_count l.graph;
  arcs : l.net ≡ more l.initial.net (map (read_numbers l.graph l.c) (take l.writer-index l.writers));
}
