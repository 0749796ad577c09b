use Rattle.std.proofs.Common.{◌≡◌, take}
use Rattle.std.specs.Prelude.{filter}
use Rattle.flow_arcs.specs.Sides.{side}
use Rattle.cut_network.proofs.Choosing.{is_outside}
use Rattle.cut_network.proofs.planner.copied_by.Given as goal

abbrev pub invariant-loop-i : goal.invariant-loop-i
invariant-loop-i l = l.copied.items ≡ filter (is_outside l.graph (side l.inside)) (take l.i l.active)
