use Rattle.std.proofs.Common.{◌+◌, List, Bool, sym, subst, arith}
use Rattle.graph_model.proofs.Needing.{MarksSo, marks_none, marks_some, marks_same, marks_all, old_writer_within}
use Rattle.graph_model.proofs.graph.Graph.mark_writers.Goals as goal
use Rattle.graph_model.proofs.graph.Graph.mark_writers.Goals.{in-Some, in_default}

pub bounds-marks-writer : goal.bounds-marks-writer
bounds-marks-writer c = let w = old_writer_within c.args.self.now c.requires.graph _ _ c.in-Some.ensures in omega arith

pub loop-v-init : goal.loop-v-init
loop-v-init c = marks_none _ _ _

pub loop-v-preserved : goal.loop-v-preserved
loop-v-preserved c =
    let P : List Bool → Type 0 = λ marks. MarksSo c.args.self.now c.args.reads.now c.args.marks.now marks (c.loop-v.v-index + 1) in
    elim c.match-old_writer.branch [
      | in-Some w ↦
          let b = old_writer_within c.args.self.now c.requires.graph _ _ w.in-Some.ensures in
          subst P (sym w.marks-is) (marks_some _ _ _ _ _ w.in-Some.writer c.loop-v.invariant (omega arith) w.in-Some.ensures)
      | in_default w ↦ subst P (sym w.marks-is) (marks_same _ _ _ _ _ c.loop-v.invariant w.in_default.ensures)
    ]

pub returns : goal.returns
returns c = marks_all c.args.self.now c.args.reads.now c.args.marks.now c.loop-v.marks c.loop-v.v-index c.loop-v-test.false (omega arith) c.loop-v.invariant
