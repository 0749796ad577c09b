-- The arcs of the plan network as numbers, segment by segment.
use Rattle.std.specs.Prelude.{ℕ, ◌+◌, ◌++◌, List, map, length}
use Rattle.flow_model.specs.declared.Arc.{Arc}
use Rattle.flow_model.specs.Flows.{Net}
use Rattle.graph_model.specs.declared.graph.Graph.{Graph}
use Rattle.graph_model.specs.declared.plan.Weights.{Weights}
use Rattle.graph_model.specs.Networks.{actives, old_writers, copy_arc, writer_arc, read_arc, rerun_arc, numbered}

-- a network with more arcs at its end
abbrev pub more : Net → List Arc → Net
more net arcs = record net { arcs = net.arcs ++ arcs }

abbrev pub node_count : Graph → ℕ
node_count g = 2 + length (actives g) + length g.cells

abbrev pub copy_numbers : Graph → Weights → ℕ → Arc
copy_numbers g w v = numbered g (copy_arc g w v)

abbrev pub writer_numbers : Graph → ℕ → Arc
writer_numbers g v = numbered g (writer_arc g v)

abbrev pub read_numbers : Graph → ℕ → ℕ → Arc
read_numbers g c d = numbered g (read_arc c d)

-- the arcs from a cell to the writers of the replaced versions that it read
abbrev pub reads_numbers : Graph → ℕ → List Arc
reads_numbers g c = map (read_numbers g c) (old_writers g c)

abbrev pub rerun_numbers : Graph → Weights → ℕ → Arc
rerun_numbers g w c = numbered g (rerun_arc g w c)
