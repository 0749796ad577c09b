use Rattle.std.proofs.Common.{ℕ, ◌<◌, get_or}
use Rattle.graph_model.specs.declared.graph.CellRecord.{CellRecord}
use Rattle.graph_model.specs.Graphs.{CellAt}
use Rattle.plan_model.proofs.names.all_cells.Given as goal

abbrev pub invariant-loop-c : goal.invariant-loop-c
invariant-loop-c l = (k d : ℕ) → k < l.c-index → (x : CellRecord) × CellAt l.graph (get_or l.rerun k d) x
