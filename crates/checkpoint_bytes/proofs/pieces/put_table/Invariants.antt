use Rattle.std.proofs.Common.{◌≤◌, ◌++◌, length, take}
use Rattle.std.specs.List.{flat_map}
use Rattle.part_bytes.specs.Texts.{four, text_bytes}
use Rattle.checkpoint_bytes.specs.Written.{WritesSoFar}
use Rattle.checkpoint_bytes.proofs.pieces.put_table.Given as goal

abbrev pub invariant-loop-number : goal.invariant-loop-number
invariant-loop-number g l = record {
  written : WritesSoFar (g.K.Sink.written l.initial.sink) (g.K.Sink.written l.sink) (l.fn.held ++ four (length l.texts) ++ flat_map text_bytes (take l.number l.texts)) l.held;
  stay : g.K.Sink.faults l.initial.sink ≤ g.K.Sink.faults l.sink;
}
