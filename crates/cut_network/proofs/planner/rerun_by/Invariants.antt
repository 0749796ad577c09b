use Rattle.std.proofs.Common.{◌≡◌}
use Rattle.std.specs.Prelude.{filter}
use Rattle.flow_arcs.specs.Sides.{side}
use Rattle.graph_model.specs.Networks.{count_up}
use Rattle.cut_network.proofs.Choosing.{is_inside}
use Rattle.cut_network.proofs.planner.rerun_by.Given as goal

abbrev pub invariant-loop-before : goal.invariant-loop-before
invariant-loop-before l = l.rerun.items ≡ filter (is_inside l.graph (side l.inside)) (count_up 1 l.before)
