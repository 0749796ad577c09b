use Rattle.std.proofs.Common.{◌≡◌, take}
use Rattle.graph_model.specs.declared.graph.CellRecord.{CellRecord}
use Rattle.history_graph.specs.Texts.{OneHas, IsWithAll}
use Rattle.history_graph.proofs.texts.add_codes.Given as goal

abbrev pub invariant-loop-cell : goal.invariant-loop-cell
invariant-loop-cell l = IsWithAll l.initial.texts (OneHas (λ (x : CellRecord) t. x.code ≡ t) (take l.cell-index l.cells)) l.texts
