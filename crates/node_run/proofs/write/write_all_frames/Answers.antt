use Rattle.std.proofs.Common.{inl, inr}
use Rattle.node_run.specs.Frames.{error_frames, run_frames}
use Rattle.node_run.proofs.Streaming.{front_first, front_second, map_err}
use Rattle.node_run.proofs.write.write_all_frames.Goals as goal

pub returns-in-Ok-clause-err : goal.returns-in-Ok-clause-err
returns-in-Ok-clause-err g c = map_err c.write_runs.result c.write_runs.ensures.err
    (λ front. front_second (g.K.Sink.written c.args.sink.now) (g.K.Sink.written c.write_errors.new.sink) (g.K.Sink.written c.write_runs.new.sink) (error_frames 1 c.args.errors.now) (run_frames c.args.runs.now)
    c.in-Ok.ensures.ok front)

pub returns-in-Err-clause-err : goal.returns-in-Err-clause-err
returns-in-Err-clause-err g c =
    front_first (g.K.Sink.written c.args.sink.now) (g.K.Sink.written c.write_errors.new.sink) (error_frames 1 c.args.errors.now) (run_frames c.args.runs.now) c.in-Err.ensures.err

pub returns-in-Ok-clause-memory : goal.returns-in-Ok-clause-memory
returns-in-Ok-clause-memory g c = λ is. inr (g.K.Sink.written c.write_errors.new.sink, c.in-Ok.ensures.ok, c.write_runs.ensures.memory is)

pub returns-in-Err-clause-memory : goal.returns-in-Err-clause-memory
returns-in-Err-clause-memory g c = λ is. inl (c.in-Err.ensures.memory is)
