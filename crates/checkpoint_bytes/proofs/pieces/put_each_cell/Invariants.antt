use Rattle.std.proofs.Common.{◌≡◌, ◌≤◌, ◌++◌, take}
use Rattle.std.specs.List.{AllWithin}
use Rattle.checkpoint_bytes.specs.Plain.{IsPlainCell}
use Rattle.part_bytes.specs.Texts.{by_number}
use Rattle.checkpoint_bytes.specs.Texts as spec
use Rattle.checkpoint_bytes.specs.Written.{WritesSoFar}
use Rattle.checkpoint_bytes.proofs.pieces.put_each_cell.Given as goal

abbrev pub invariant-loop-index : goal.invariant-loop-index
invariant-loop-index g l = record {
  written : WritesSoFar (g.K.Sink.written l.initial.sink) (g.K.Sink.written l.sink) (l.initial.held ++ spec.each_from (λ n cell. spec.cell_bytes (by_number l.texts) (spec.lists l.plan.rerun n) cell) 1 (take l.index l.cells)) l.held;
  stay : g.K.Sink.faults l.initial.sink ≤ g.K.Sink.faults l.sink;
  plain : AllWithin IsPlainCell l.cells 0 l.index;
}
