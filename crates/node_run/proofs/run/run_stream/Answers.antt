use Rattle.std.proofs.Common.{ap, subst, Err}
use Rattle.node_run.specs.declared.write.WriteFault.{WriteFault}
use Rattle.nb_outside.specs.Streams.{Adds}
use Rattle.node_run.specs.Frames.{AddsFront}
use Rattle.node_run.specs.Ends.{IsCaused}
use Rattle.node_run.proofs.Ending.{caused_by, same_written, same_served, told_nothing, told_all, told_cut, told_short}
use Rattle.node_run.proofs.run.run_stream.Goals as goal

pub returns-in-Ok-write_all_frames-clause-streams : goal.returns-in-Ok-write_all_frames-clause-streams
returns-in-Ok-write_all_frames-clause-streams g c =
    let t = c.in-Ok.ensures.told in
    told_all g.E.Engine.meaning c.args.hosts (g.Q.Feeds.gives c.args.feeds.now) (IsCaused (g.S.Source.faults c.args.source.now) (g.S.Source.faults c.run_sessions.new.source) (g.S.Source.reads c.args.source.now) (g.S.Source.reads c.run_sessions.new.source)) c.status_of.result c.in-Ok.ran.end (g.S.Source.left c.args.source.now) (g.S.Source.left c.run_sessions.new.source) (g.K.Sink.written c.args.sink.now)
    (g.K.Sink.written c.write_all_frames.new.sink) t.0 c.in-Ok.ran.errors c.in-Ok.ran.runs.items c.status_of.ensures t.1 t.2
    (subst (Adds (g.K.Sink.written c.args.sink.now) (g.K.Sink.written c.write_all_frames.new.sink)) (same_written _ _ _ _ c.as_slice.ensures c.as_slice-in-Ok.ensures.value) c.in-Ok-write_all_frames.ensures.ok)
    (caused_by (g.S.Source.faults c.args.source.now) (g.S.Source.faults c.run_sessions.new.source) (g.S.Source.reads c.args.source.now) (g.S.Source.reads c.run_sessions.new.source) c.in-Ok.ran.end c.in-Ok.ensures.failed c.in-Ok.ensures.reads)

pub returns-in-Err-Sink-clause-streams : goal.returns-in-Err-Sink-clause-streams
returns-in-Err-Sink-clause-streams g c =
    let t = c.in-Ok.ensures.told in
    told_cut g.E.Engine.meaning c.args.hosts (g.Q.Feeds.gives c.args.feeds.now) (IsCaused (g.S.Source.faults c.args.source.now) (g.S.Source.faults c.run_sessions.new.source) (g.S.Source.reads c.args.source.now) (g.S.Source.reads c.run_sessions.new.source)) c.in-Ok.ran.end (g.S.Source.left c.args.source.now) (g.S.Source.left c.run_sessions.new.source) (g.K.Sink.written c.args.sink.now)
    (g.K.Sink.written c.write_all_frames.new.sink) t.0 c.in-Ok.ran.errors c.in-Ok.ran.runs.items t.1 t.2
    (subst (AddsFront (g.K.Sink.written c.args.sink.now) (g.K.Sink.written c.write_all_frames.new.sink)) (same_written _ _ _ _ c.as_slice.ensures c.as_slice-in-Ok.ensures.value) c.in-Err-Sink.ensures.err)
    (caused_by (g.S.Source.faults c.args.source.now) (g.S.Source.faults c.run_sessions.new.source) (g.S.Source.reads c.args.source.now) (g.S.Source.reads c.run_sessions.new.source) c.in-Ok.ran.end c.in-Ok.ensures.failed c.in-Ok.ensures.reads)

pub returns-in-Ok-clause-streams : goal.returns-in-Ok-clause-streams
returns-in-Ok-clause-streams g c =
    let t = c.in-Ok.ensures.told in
    told_short g.E.Engine.meaning c.args.hosts (g.Q.Feeds.gives c.args.feeds.now) (IsCaused (g.S.Source.faults c.args.source.now) (g.S.Source.faults c.run_sessions.new.source) (g.S.Source.reads c.args.source.now) (g.S.Source.reads c.run_sessions.new.source)) c.in-Ok.ran.end (g.S.Source.left c.args.source.now) (g.S.Source.left c.run_sessions.new.source) (g.K.Sink.written c.args.sink.now)
    (g.K.Sink.written c.write_all_frames.new.sink) t.0 c.in-Ok.ran.errors c.in-Ok.ran.runs.items t.1 t.2
    (same_served (g.K.Sink.written c.args.sink.now) (g.K.Sink.written c.write_all_frames.new.sink) _ _ _ _ c.as_slice.ensures c.as_slice-in-Ok.ensures.value (c.in-Err-OutOfMemory.ensures.memory (ap (λ (f : WriteFault). Err f) c.in-Err-OutOfMemory.field-0-is)))
    (caused_by (g.S.Source.faults c.args.source.now) (g.S.Source.faults c.run_sessions.new.source) (g.S.Source.reads c.args.source.now) (g.S.Source.reads c.run_sessions.new.source) c.in-Ok.ran.end c.in-Ok.ensures.failed c.in-Ok.ensures.reads)

pub returns-clause-streams : goal.returns-clause-streams
returns-clause-streams g c =
    let t = c.in-Err.ensures.told in
    told_nothing g.E.Engine.meaning c.args.hosts (g.Q.Feeds.gives c.args.feeds.now) (IsCaused (g.S.Source.faults c.args.source.now) (g.S.Source.faults c.run_sessions.new.source) (g.S.Source.reads c.args.source.now) (g.S.Source.reads c.run_sessions.new.source)) (g.S.Source.left c.args.source.now) (g.S.Source.left c.run_sessions.new.source) (g.K.Sink.written c.args.sink.now) t.0 t.1
