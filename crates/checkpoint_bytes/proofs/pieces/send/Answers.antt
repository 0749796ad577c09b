use Rattle.std.proofs.Common.{subst, sym, arith}
use Rattle.checkpoint_bytes.proofs.Written.{WritesSoFar, more_written}
use Rattle.checkpoint_bytes.proofs.pieces.send.Goals as goal

pub loop-rest-preserved : goal.loop-rest-preserved
loop-rest-preserved g c = (
  subst (WritesSoFar (g.K.Sink.written c.args.sink.now) (g.K.Sink.written c.write.new.self) c.args.bytes.now) (sym c.split_at.ensures.back)
      (more_written _ _ _ _ c.loop-rest.rest.now c.in-Wrote.count c.loop-rest.invariant.0 c.in-Wrote.ensures.bytes.1),
  omega arith,
)
