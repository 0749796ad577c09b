use Rattle.std.proofs.lemmas.Str.{is_utf8-from_IsUtf8}
use Rattle.part_bytes.proofs.Pieces.{on_ok}
use Rattle.part_bytes.proofs.values.write_text.Goals as goal

pub returns-clause-plain : goal.returns-clause-plain
returns-clause-plain c = on_ok c.extend_from_slice.result (is_utf8-from_IsUtf8 c.args.text.now c.utf8.text, c.in_ok-write_count.ensures.few)
