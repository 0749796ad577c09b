use Rattle.std.proofs.Common.{◌≡◌, ◌++◌, drop}
use Rattle.cut_network.specs.Shown.{shown}
use Rattle.cut_network.proofs.shown.carrying_arcs.Given as goal

abbrev pub invariant-loop-i : goal.invariant-loop-i
invariant-loop-i l = l.carrying.items ++ shown l.active (drop l.i l.arcs) (drop l.i l.on) ≡ shown l.active l.arcs l.on
