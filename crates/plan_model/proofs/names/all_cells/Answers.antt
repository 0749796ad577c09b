use Rattle.std.proofs.Common.{ℕ, refl, arith}
use Rattle.graph_model.specs.declared.graph.CellRecord.{CellRecord}
use Rattle.graph_model.specs.Graphs.{CellAt}
use Rattle.plan_model.proofs.Deciding.{all_contained, all_more}
use Rattle.plan_model.proofs.names.all_cells.Goals as goal

pub loop-c-preserved : goal.loop-c-preserved
loop-c-preserved c =
    let P : ℕ → Type 0 = λ n. (x : CellRecord) × CellAt c.args.graph.now n x in
    all_more P c.args.rerun.now c.loop-c.c-index c.loop-c-test.true c.loop-c.invariant (c.is_cell.ensures.0 c.if-not-is_cell.false)

pub returns : goal.returns
returns c =
    let P : ℕ → Type 0 = λ n. (x : CellRecord) × CellAt c.args.graph.now n x in
    (λ t. all_contained P c.args.rerun.now (λ k d l. c.loop-c.invariant k d (omega arith)), λ h. refl)
