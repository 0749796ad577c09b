use Rattle.part_bytes.specs.Parts.{number_in, numbered}
use Rattle.part_bytes.specs.Plain.{IsPlain}
use Rattle.part_bytes.specs.Texts as spec
use Rattle.part_bytes.specs.Spellings.{spells}
use Rattle.part_bytes.proofs.Pieces.{mapped_more, all_more}
use Rattle.part_bytes.proofs.objects.write_items.Goals as goal

pub loop-value-preserved : goal.loop-value-preserved
loop-value-preserved c = record {
  bytes = mapped_more (spec.spelled_value (spells c.args.spelling.now)) (numbered (number_in c.args.numbers.now.order)) c.args.out.now _ _ c.args.items.now c.loop-value.value-index c.value-item.result
      c.loop-value-test.true c.value-item.is c.loop-value.invariant.bytes c.in_ok-write_value.ensures.bytes;
  plain = all_more IsPlain c.args.items.now c.loop-value.value-index c.value-item.result c.loop-value-test.true c.value-item.is c.loop-value.invariant.plain c.in_ok-write_value.ensures.plain;
}
