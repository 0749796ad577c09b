use Rattle.std.proofs.Common.{subst, sym, arith}
use Rattle.node_serve.specs.Sent.{SendsSoFar}
use Rattle.node_serve.proofs.Pieces.{more_sent}
use Rattle.node_serve.proofs.sending.send_all.Goals as goal

pub loop-rest-preserved : goal.loop-rest-preserved
loop-rest-preserved g c = (
  subst (SendsSoFar (g.L.Link.line c.args.link.now) (g.L.Link.line c.send.new.self) c.args.bytes.now) (sym c.split_at.ensures.back)
      (more_sent _ _ _ _ c.loop-rest.rest.now c.in-Wrote.count c.loop-rest.invariant.0 c.in-Wrote.ensures.bytes.1),
  omega arith,
)
