use Rattle.std.proofs.Common.{ℕ, ◌<◌, get_or}
use Rattle.graph_model.specs.declared.graph.Version.{Version}
use Rattle.graph_model.specs.Graphs.{IsActive}
use Rattle.plan_model.proofs.names.all_active.Given as goal

abbrev pub invariant-loop-v : goal.invariant-loop-v
invariant-loop-v l = (k d : ℕ) → k < l.v-index → (x : Version) × IsActive l.graph (get_or l.copied k d) x
