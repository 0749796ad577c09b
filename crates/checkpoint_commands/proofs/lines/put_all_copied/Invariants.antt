use Rattle.std.proofs.Common.{◌≡◌, ◌++◌, take}
use Rattle.std.specs.List.{flat_map}
use Rattle.checkpoint_commands.specs.Lines as spec
use Rattle.checkpoint_commands.proofs.lines.put_all_copied.Given as goal

abbrev pub invariant-loop-version : goal.invariant-loop-version
invariant-loop-version l = l.out ≡ l.fn.out ++ flat_map (spec.copy_line l.graph) (take l.version-index l.versions)
