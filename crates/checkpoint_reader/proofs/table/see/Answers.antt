use Rattle.std.proofs.Common.{arith}
use Rattle.checkpoint_reader.proofs.Seen.{is_seen}
use Rattle.checkpoint_reader.proofs.table.see.Goals as goal

pub returns-clause-known : goal.returns-clause-known
returns-clause-known c = is_seen c.args.seen.now c.args.text.now c.len-count.result c.in_ok-number.number c.len-count.ensures c.in_ok-number.ensures.number
