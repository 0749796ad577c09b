use Rattle.std.proofs.Common.{◌≡◌, ◌++◌, take}
use Rattle.std.specs.List.{flat_map}
use Rattle.checkpoint_commands.specs.Told as spec
use Rattle.checkpoint_commands.proofs.restore_lines.put_lines.Given as goal

abbrev pub invariant-loop-name : goal.invariant-loop-name
invariant-loop-name l = l.lines ≡ l.fn.lines ++ flat_map (spec.line_of l.state) (take l.name-index l.names)
