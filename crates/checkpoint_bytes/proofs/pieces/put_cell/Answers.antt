use Rattle.std.proofs.Common.{subst}
use Rattle.checkpoint_bytes.specs.Written.{AddsFront}
use Rattle.checkpoint_bytes.proofs.Written.{map_err}
use Rattle.checkpoint_bytes.proofs.pieces.put_cell.Goals as goal

pub returns-clause-err : goal.returns-clause-err
returns-clause-err g c =
    map_err c.flush_much.result c.flush_much.ensures.err (subst (AddsFront (g.K.Sink.written c.args.sink.now) (g.K.Sink.written c.flush_much.new.sink)) c.in_ok-write_cell.ensures.bytes)
