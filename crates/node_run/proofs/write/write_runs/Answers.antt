use Rattle.std.proofs.Common.{subst, arith}
use Rattle.nb_outside.specs.Streams.{Adds}
use Rattle.node_run.specs.Frames.{journal_frames, run_frames, AddsFront, AddsEntriesBefore}
use Rattle.node_run.proofs.Streaming.{piece_written, front_written, all_written}
use Rattle.node_run.proofs.Framing.{run_next, run_past}
use Rattle.node_run.proofs.Stopping.{stops_in_runs}
use Rattle.node_run.proofs.write.write_runs.Goals as goal

pub returns-in-Err-clause-err : goal.returns-in-Err-clause-err
returns-in-Err-clause-err g c =
    front_written (g.K.Sink.written c.args.sink.now) (g.K.Sink.written c.loop-run.sink) (g.K.Sink.written c.write_journal.new.sink) (run_frames c.args.runs.now) _ _ _ c.loop-run.invariant.0
    (run_next c.loop-run.run-index c.run-item.result c.args.runs.now c.loop-run-test.true c.run-item.is)
    (subst (λ es. AddsFront (g.K.Sink.written c.loop-run.sink) (g.K.Sink.written c.write_journal.new.sink) (journal_frames c.run-item.result.0 1 es)) c.entries.ensures c.in-Err.ensures.err)

pub returns-in-Err-clause-memory : goal.returns-in-Err-clause-memory
returns-in-Err-clause-memory g c = λ is.
    stops_in_runs (g.K.Sink.written c.args.sink.now) (g.K.Sink.written c.loop-run.sink) (g.K.Sink.written c.write_journal.new.sink) c.args.runs.now c.loop-run.run-index c.run-item.result c.loop-run-test.true c.run-item.is
    c.loop-run.invariant.0
    (subst (λ es. AddsEntriesBefore (g.K.Sink.written c.loop-run.sink) (g.K.Sink.written c.write_journal.new.sink) c.run-item.result.0 es) c.entries.ensures (c.in-Err.ensures.memory is))

pub loop-run-preserved : goal.loop-run-preserved
loop-run-preserved g c = (
  piece_written (g.K.Sink.written c.args.sink.now) (g.K.Sink.written c.loop-run.sink) (g.K.Sink.written c.write_journal.new.sink) (run_frames c.args.runs.now) _ _ _ c.loop-run.invariant.0
      (run_next c.loop-run.run-index c.run-item.result c.args.runs.now c.loop-run-test.true c.run-item.is)
      (subst (λ es. Adds (g.K.Sink.written c.loop-run.sink) (g.K.Sink.written c.write_journal.new.sink) (journal_frames c.run-item.result.0 1 es)) c.entries.ensures c.in-Ok.ensures.ok),
  omega (arith, c.in-Ok.ensures.faults_stay, c.loop-run.invariant.1),
)

pub returns-clause-ok : goal.returns-clause-ok
returns-clause-ok g c =
    all_written (g.K.Sink.written c.args.sink.now) (g.K.Sink.written c.loop-run.sink) (run_frames c.args.runs.now) _ c.loop-run.invariant.0
    (run_past c.loop-run.run-index c.args.runs.now c.loop-run-test.false)
