use Rattle.std.proofs.Common.{◌≡◌, ◌-◌}
use Rattle.checkpoint_reader.specs.Reads.{turns}
use Rattle.checkpoint_reader.specs.Fields as spec
use Rattle.checkpoint_reader.proofs.table.read_all_texts.Given as goal

abbrev pub invariant-loop-index : goal.invariant-loop-index
invariant-loop-index l = record {
  seen : l.seen ≡ l.listed.texts;
  turns : turns (spec.next_text l.bytes) (l.count - l.index) l.listed l.spot ≡ turns (spec.next_text l.bytes) l.count spec.none_listed l.fn.spot;
}
