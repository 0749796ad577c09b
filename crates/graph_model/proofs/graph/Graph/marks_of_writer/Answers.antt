use Rattle.std.proofs.Common.{◌+◌, arith}
use Rattle.graph_model.proofs.Needing.{writer_within, one_marked, none_marked}
use Rattle.graph_model.proofs.graph.Graph.marks_of_writer.Goals as goal

pub index_mut-requires : goal.index_mut-requires
index_mut-requires c =
    let w = writer_within c.args.self.now c.requires.graph c.args.v c.writer-writer.ensures.0 c.writer-writer.ensures.1 in
    let e = c.writer-writer.ensures.2 in
    let l = c.in_ok-marks.ensures.len in
    let k = c.len.ensures in
    omega arith

pub returns-clause-writer : goal.returns-clause-writer
returns-clause-writer c =
    let w = writer_within c.args.self.now c.requires.graph c.args.v c.writer-writer.ensures.0 c.writer-writer.ensures.1 in
    let e = c.writer-writer.ensures.2 in
    let k = c.in_ok-marks.marks.ok.0 in
    let l = c.in_ok-marks.ensures.len in
    let n = c.len.ensures in
    one_marked c.args.self.now c.args.v _ c.writer-writer.ensures.0 c.writer-writer.ensures.1 c.writer-writer.ensures.2 c.in_ok-marks.marks.items (omega arith)
    (none_marked (c.len.result + 1) _ (c.in_ok-marks.ensures.items_if_clones_equal (λ y e. e)))
