use Rattle.std.proofs.Common.{◌+◌, arith}
use Rattle.node_run.specs.Frames.{error_frames}
use Rattle.node_run.proofs.Streaming.{piece_written, front_written, all_written}
use Rattle.node_run.proofs.Framing.{error_next, error_past}
use Rattle.node_run.proofs.Stopping.{stops_in_errors}
use Rattle.node_run.proofs.write.write_errors.Goals as goal

pub returns-in-Err-clause-err : goal.returns-in-Err-clause-err
returns-in-Err-clause-err g c =
    front_written (g.K.Sink.written c.args.sink.now) (g.K.Sink.written c.loop-at.sink) (g.K.Sink.written c.write_error.new.sink) (error_frames 1 c.args.errors.now) _ _ _ c.loop-at.invariant.0
    (error_next c.loop-at.at c.index-errors-at.result c.args.errors.now c.loop-at-test.true c.index-errors-at.is) c.in-Err.ensures.err

pub returns-in-Err-clause-memory : goal.returns-in-Err-clause-memory
returns-in-Err-clause-memory g c = λ is.
    stops_in_errors (g.K.Sink.written c.args.sink.now) (g.K.Sink.written c.loop-at.sink) (g.K.Sink.written c.write_error.new.sink) c.args.errors.now c.loop-at.at c.index-errors-at.result c.loop-at-test.true c.index-errors-at.is
    c.loop-at.invariant.0 (c.in-Err.ensures.memory is)

pub loop-at-preserved : goal.loop-at-preserved
loop-at-preserved g c = (
  piece_written (g.K.Sink.written c.args.sink.now) (g.K.Sink.written c.loop-at.sink) (g.K.Sink.written c.write_error.new.sink) (error_frames 1 c.args.errors.now) _ _ _ c.loop-at.invariant.0
      (error_next c.loop-at.at c.index-errors-at.result c.args.errors.now c.loop-at-test.true c.index-errors-at.is) c.in-Ok.ensures.ok,
  omega (arith, c.in-Ok.ensures.faults_stay, c.loop-at.invariant.1),
)

pub returns-clause-ok : goal.returns-clause-ok
returns-clause-ok g c =
    all_written (g.K.Sink.written c.args.sink.now) (g.K.Sink.written c.loop-at.sink) (error_frames 1 c.args.errors.now) _ c.loop-at.invariant.0
    (error_past c.loop-at.at (c.loop-at.at + 1) c.args.errors.now c.loop-at-test.false)
