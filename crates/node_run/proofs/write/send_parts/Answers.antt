use Rattle.std.proofs.Common.{◌+◌, drop, subst, arith}
use Rattle.nb_outside.specs.Streams.{Adds}
use Rattle.node_run.specs.Frames.{parts_together, AddsFront}
use Rattle.node_run.proofs.Streaming.{piece_written, front_written, all_written}
use Rattle.node_run.proofs.Framing.{parts_next, parts_past}
use Rattle.node_run.proofs.write.send_parts.Goals as goal

pub returns-in-Err-clause-err : goal.returns-in-Err-clause-err
returns-in-Err-clause-err g c =
    front_written (g.K.Sink.written c.args.sink.now) (g.K.Sink.written c.loop-part.sink) (g.K.Sink.written c.send.new.sink) (parts_together c.args.parts.now) (parts_together (drop c.loop-part.part-index c.args.parts.now)) c.part-item.result
    (parts_together (drop (c.loop-part.part-index + 1) c.args.parts.now)) c.loop-part.invariant.0
    (parts_next c.loop-part.part-index c.part-item.result c.args.parts.now c.loop-part-test.true c.part-item.is) (subst (AddsFront (g.K.Sink.written c.loop-part.sink) (g.K.Sink.written c.send.new.sink)) c.as_slice.ensures c.in-Err.ensures.err)

pub loop-part-preserved : goal.loop-part-preserved
loop-part-preserved g c = (
  piece_written (g.K.Sink.written c.args.sink.now) (g.K.Sink.written c.loop-part.sink) (g.K.Sink.written c.send.new.sink) (parts_together c.args.parts.now) (parts_together (drop c.loop-part.part-index c.args.parts.now)) c.part-item.result
      (parts_together (drop (c.loop-part.part-index + 1) c.args.parts.now)) c.loop-part.invariant.0
      (parts_next c.loop-part.part-index c.part-item.result c.args.parts.now c.loop-part-test.true c.part-item.is) (subst (Adds (g.K.Sink.written c.loop-part.sink) (g.K.Sink.written c.send.new.sink)) c.as_slice.ensures c.in-Ok.ensures.ok),
  omega (arith, c.in-Ok.ensures.faults_stay, c.loop-part.invariant.1),
)

pub returns-clause-ok : goal.returns-clause-ok
returns-clause-ok g c =
    all_written (g.K.Sink.written c.args.sink.now) (g.K.Sink.written c.loop-part.sink) (parts_together c.args.parts.now) _ c.loop-part.invariant.0
    (parts_past c.loop-part.part-index c.args.parts.now c.loop-part-test.false)
