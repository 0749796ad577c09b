use Rattle.std.proofs.Common.{◌≡◌, ◌-◌}
use Rattle.checkpoint_reader.specs.Reads.{turns}
use Rattle.checkpoint_reader.specs.Fields as spec
use Rattle.checkpoint_reader.specs.Numbered.{AreCells}
use Rattle.checkpoint_reader.proofs.cells.read_all_cells.Given as goal

abbrev pub invariant-loop-index : goal.invariant-loop-index
invariant-loop-index l = AreCells l.index l.cells × (turns (spec.next_cell l.bytes l.texts) (l.count - l.index) l.cells l.spot ≡ turns (spec.next_cell l.bytes l.texts) l.count spec.no_cells l.fn.spot)
