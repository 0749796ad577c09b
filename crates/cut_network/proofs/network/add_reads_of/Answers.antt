use Rattle.std.proofs.Common.{arith}
use Rattle.graph_model.proofs.Lookups.{cell_within}
use Rattle.cut_network.proofs.Adding.{old_writer_low}
use Rattle.cut_network.proofs.network.add_reads_of.Goals as goal

pub overflow_add-cells-in-loop-writer : goal.overflow_add-cells-in-loop-writer
overflow_add-cells-in-loop-writer c =
    let b = old_writer_low c.args.graph.now c.requires.graph c.args.c c.requires.cell.0 c.requires.cell.1 c.args.writers.now c.loop-writer.writer-index c.requires.writers c.loop-writer-test.true in
    omega arith

pub add-requires-clause-to_within : goal.add-requires-clause-to_within
add-requires-clause-to_within c =
    let b = old_writer_low c.args.graph.now c.requires.graph c.args.c c.requires.cell.0 c.requires.cell.1 c.args.writers.now c.loop-writer.writer-index c.requires.writers c.loop-writer-test.true in
    omega arith

pub add-requires-clause-from_within : goal.add-requires-clause-from_within
add-requires-clause-from_within c =
    let b = cell_within c.args.graph.now c.args.c c.requires.cell.0 c.requires.cell.1 in
    omega arith
