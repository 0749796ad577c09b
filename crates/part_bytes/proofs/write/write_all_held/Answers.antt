use Rattle.part_bytes.specs.Parts.{number_in, held_of}
use Rattle.part_bytes.specs.Plain.{IsPlainIn}
use Rattle.part_bytes.specs.Texts as spec
use Rattle.part_bytes.specs.Spellings.{spells}
use Rattle.part_bytes.proofs.Pieces.{mapped_more, all_more}
use Rattle.part_bytes.proofs.write.write_all_held.Goals as goal

pub loop-name-preserved : goal.loop-name-preserved
loop-name-preserved c = record {
  bytes = mapped_more (spec.spelled_held (spells c.args.spelling.now)) (held_of c.args.state.now (number_in c.args.numbers.now.order)) c.args.out.now _ _ c.args.names.now c.loop-name.name-index c.name-item.result
      c.loop-name-test.true c.name-item.is c.loop-name.invariant.bytes c.in_ok-write_held.ensures.bytes;
  plain = all_more (IsPlainIn c.args.state.now) c.args.names.now c.loop-name.name-index c.name-item.result c.loop-name-test.true c.name-item.is c.loop-name.invariant.plain c.in_ok-write_held.ensures.plain;
}
