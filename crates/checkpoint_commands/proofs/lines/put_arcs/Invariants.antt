use Rattle.std.proofs.Common.{◌≡◌, ◌++◌, take}
use Rattle.std.specs.List.{flat_map}
use Rattle.checkpoint_commands.specs.Lines as spec
use Rattle.checkpoint_commands.proofs.lines.put_arcs.Given as goal

abbrev pub invariant-loop-arc : goal.invariant-loop-arc
invariant-loop-arc l = l.out ≡ l.fn.out ++ flat_map spec.arc_line (take l.arc-index l.arcs)
