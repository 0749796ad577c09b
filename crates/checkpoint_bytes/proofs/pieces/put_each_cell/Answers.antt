use Rattle.std.proofs.Common.{◌+◌, ◌++◌, Bool, false, List, ℕ, get_or, take, ap, ◌∙◌, subst, arith}
use Rattle.part_bytes.proofs.Pieces.{all_more}
use Rattle.graph_model.specs.declared.graph.CellRecord.{CellRecord}
use Rattle.checkpoint_bytes.specs.Plain.{IsPlainCell}
use Rattle.part_bytes.specs.Texts.{by_number}
use Rattle.checkpoint_bytes.specs.Texts as spec
use Rattle.checkpoint_bytes.specs.Written.{AddsFront, WritesSoFar}
use Rattle.checkpoint_bytes.proofs.Items.{next_from, parts_from}
use Rattle.checkpoint_bytes.proofs.Written.{put_next, put_next_front, on_err}
use Rattle.checkpoint_bytes.proofs.pieces.put_each_cell.Goals as goal

pub loop-index-preserved : goal.loop-index-preserved
loop-index-preserved g c =
    let i : ℕ = c.loop-index.index in
    let x : CellRecord = c.index-cells-index.result in
    let each = λ (n : ℕ) (cell : CellRecord). spec.cell_bytes (by_number c.args.texts.now) (spec.lists c.args.plan.now.rerun n) cell in
    let mark = ap (λ (ms : List Bool). get_or ms (i + 1) false) c.as_slice.ensures ∙ c.requires.marked (i + 1) (omega (arith, c.loop-index-test.true)) in
    record {
      written = put_next _ _ _ c.args.held.now (spec.each_from each 1 (take i c.args.cells.now)) (each (i + 1) x) _ c.loop-index.held c.put_cell.new.held
          c.loop-index.invariant.written (next_from each c.args.cells.now i x c.loop-index-test.true c.index-cells-index.is)
          (subst (λ (b : Bool). WritesSoFar (g.K.Sink.written c.loop-index.sink) (g.K.Sink.written c.put_cell.new.sink) (c.loop-index.held ++ spec.cell_bytes (by_number c.args.texts.now) b x) c.put_cell.new.held) mark c.in_ok-put_cell.ensures.ok);
      stay = omega (arith, c.loop-index.invariant.stay, c.in_ok-put_cell.ensures.faults_stay);
      plain = all_more IsPlainCell c.args.cells.now i x c.loop-index-test.true c.index-cells-index.is c.loop-index.invariant.plain c.in_ok-put_cell.ensures.plain;
    }

pub returns-in_err-put_cell-clause-err : goal.returns-in_err-put_cell-clause-err
returns-in_err-put_cell-clause-err g c =
    let i : ℕ = c.loop-index.index in
    let x : CellRecord = c.index-cells-index.result in
    let each = λ (n : ℕ) (cell : CellRecord). spec.cell_bytes (by_number c.args.texts.now) (spec.lists c.args.plan.now.rerun n) cell in
    let mark = ap (λ (ms : List Bool). get_or ms (i + 1) false) c.as_slice.ensures ∙ c.requires.marked (i + 1) (omega (arith, c.loop-index-test.true)) in
    let parts = parts_from each c.args.cells.now i x c.loop-index-test.true c.index-cells-index.is in
    on_err c.from_residual.result (put_next_front _ _ _ c.args.held.now (spec.each_from each 1 (take i c.args.cells.now)) (each (i + 1) x) parts.0 _ c.loop-index.held
    c.loop-index.invariant.written parts.1
    (subst (λ (b : Bool). AddsFront (g.K.Sink.written c.loop-index.sink) (g.K.Sink.written c.put_cell.new.sink) (c.loop-index.held ++ spec.cell_bytes (by_number c.args.texts.now) b x)) mark c.in_err-put_cell.ensures.err))
