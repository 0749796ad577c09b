use Rattle.std.proofs.Common.{List, ℕ, take, ap, sym, ◌∙◌}
use Rattle.std.proofs.lemmas.List.{take_all}
use Rattle.graph_model.specs.declared.graph.CellRecord.{CellRecord}
use Rattle.part_bytes.specs.Tables.{with_text, with_texts}
use Rattle.checkpoint_bytes.specs.Texts as spec
use Rattle.checkpoint_bytes.proofs.Gathering.{one_code_more}
use Rattle.checkpoint_bytes.proofs.texts.add_codes.Goals as goal

pub loop-cell-preserved : goal.loop-cell-preserved
loop-cell-preserved c = one_code_more c.args.texts.now _ _ c.args.cells.now c.loop-cell.cell-index c.cell-item.result c.loop-cell-test.true c.cell-item.is c.loop-cell.invariant
    (c.in_ok-number.ensures.ok ∙ ap (with_text c.loop-cell.texts) c.as_str.ensures)

pub returns : goal.returns
returns c = c.loop-cell.invariant ∙ ap (λ (xs : List CellRecord). with_texts c.args.texts.now (spec.codes_of xs)) (take_all c.loop-cell.cell-index c.args.cells.now c.loop-cell-test.false)
