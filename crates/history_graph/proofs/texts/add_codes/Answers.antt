use Rattle.std.proofs.Common.{◌≡◌, ℕ, ◌<◌, ◌≤◌, List, length, sym, ◌∙◌, arith}
use Rattle.graph_model.specs.declared.graph.CellRecord.{CellRecord}
use Rattle.history_graph.proofs.Items.{with_such, items_more, items_all}
use Rattle.history_graph.proofs.texts.add_codes.Goals as goal

abbrev HasCode : CellRecord → List ℕ → Type 0
HasCode x t = x.code ≡ t

pub loop-cell-preserved : goal.loop-cell-preserved
loop-cell-preserved c =
    let i = c.loop-cell.cell-index in
    let x = c.cell-item.result in
    let l : i < length c.args.cells.now = omega arith in
    let same = c.as_str.ensures in
    items_more HasCode c.args.cells.now i c.args.texts.now c.loop-cell.texts c.add_text.new.texts x l c.cell-item.is c.loop-cell.invariant
    (with_such (λ (t : List ℕ). t ≡ c.as_str.result.now) (HasCode x) c.loop-cell.texts c.add_text.new.texts (λ t e. sym (e ∙ same)) (λ t e. sym e ∙ sym same) c.in_ok-add_text.ensures)

pub returns : goal.returns
returns c =
    let l : length c.args.cells.now ≤ c.loop-cell.cell-index = omega arith in
    items_all HasCode c.args.cells.now c.loop-cell.cell-index c.args.texts.now c.loop-cell.texts l c.loop-cell.invariant
