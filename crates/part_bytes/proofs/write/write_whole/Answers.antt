use Rattle.std.proofs.Common.{refl}
use Rattle.part_bytes.specs.Spellings.{spells}
use Rattle.part_bytes.proofs.Pieces.{whole_text}
use Rattle.part_bytes.proofs.write.write_whole.Goals as goal

pub returns-clause-bytes : goal.returns-clause-bytes
returns-clause-bytes c = whole_text (spells c.args.spelling.now) c.args.state.now c.args.names.now c.in_ok-numbers.numbers.order c.in_ok-numbers.ensures.order c.in_ok-numbers.ensures.live _ _ refl c.len.ensures
    _ _ _ _ _ _ c.new-out.ensures c.in_ok-write_count.ensures.bytes c.in_ok-write_names.ensures c.in_ok-write_all_held.ensures.bytes c.in_ok-write_count-2.ensures.bytes c.in_ok-write_objects.ensures.bytes
