use Rattle.std.proofs.Common.{◌≡◌}
use Rattle.std.specs.Prelude.{filter}
use Rattle.graph_model.specs.Networks.{count_up, is_active_at}
use Rattle.cut_network.proofs.active.active_versions.Given as goal

abbrev pub invariant-loop-before : goal.invariant-loop-before
invariant-loop-before l = l.active.items ≡ filter (is_active_at l.graph) (count_up 1 l.before)
