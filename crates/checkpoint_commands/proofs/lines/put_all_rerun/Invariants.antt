use Rattle.std.proofs.Common.{◌≡◌, ◌++◌, take}
use Rattle.std.specs.List.{flat_map}
use Rattle.checkpoint_commands.specs.Lines as spec
use Rattle.checkpoint_commands.proofs.lines.put_all_rerun.Given as goal

abbrev pub invariant-loop-cell : goal.invariant-loop-cell
invariant-loop-cell l = l.out ≡ l.fn.out ++ flat_map spec.run_line (take l.cell-index l.cells)
