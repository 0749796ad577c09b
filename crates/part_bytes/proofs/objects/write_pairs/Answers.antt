use Rattle.std.proofs.Common.{sym}
use Rattle.std.proofs.lemmas.Option.{slice_get_within, get_or_from_slice_get}
use Rattle.py_value.specs.declared.key.Key.{Key}
use Rattle.py_value.specs.declared.value.Value.{Value}
use Rattle.part_bytes.specs.Parts.{number_in}
use Rattle.part_bytes.specs.Plain.{IsPlainPair}
use Rattle.part_bytes.specs.Spellings.{spells}
use Rattle.part_bytes.proofs.Pieces.{pair_more, all_more}
use Rattle.part_bytes.proofs.objects.write_pairs.Goals as goal

pub loop-index-preserved : goal.loop-index-preserved
loop-index-preserved c =
    let pair : Key × Value = (c.pair_at.result.0.now, c.pair_at.result.1.now) in
    record {
      bytes = pair_more (spells c.args.spelling.now) (number_in c.args.numbers.now.order) c.args.out.now _ _ _ c.args.dict.now c.loop-index.index c.pair_at.result.0.now c.pair_at.result.1.now
          c.pair_at.ensures c.loop-index.invariant.bytes c.in_ok-write_key.ensures.bytes c.in_ok-write_value.ensures.bytes;
      plain = all_more IsPlainPair c.args.dict.now c.loop-index.index pair (slice_get_within c.args.dict.now c.loop-index.index pair c.pair_at.ensures)
          (sym (get_or_from_slice_get c.args.dict.now c.loop-index.index pair pair c.pair_at.ensures)) c.loop-index.invariant.plain
          (c.in_ok-write_key.ensures.plain, c.in_ok-write_value.ensures.plain);
    }
