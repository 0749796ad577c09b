use Rattle.std.proofs.Common.{arith}
use Rattle.std.proofs.lemmas.Str.{is_utf8-from_IsUtf8}
use Rattle.part_bytes.proofs.Pieces.{on_ok}
use Rattle.part_bytes.proofs.values.write_text_number.Goals as goal

pub returns-clause-plain : goal.returns-clause-plain
returns-clause-plain c = on_ok c.write_four.result (is_utf8-from_IsUtf8 c.args.text.now c.utf8.text, omega arith)
