use Rattle.std.proofs.Common.{ap}
use Rattle.node_run.specs.Frames.{journal_frames, parts_together}
use Rattle.node_run.proofs.Streaming.{front_first, front_second}
use Rattle.node_run.proofs.Stopping.{fault_alike}
use Rattle.node_run.proofs.Batching.{made_waits, none_waits}
use Rattle.node_run.proofs.write.write_next.Goals as goal

pub returns-in-Ok-Some-clause-ok : goal.returns-in-Ok-Some-clause-ok
returns-in-Ok-Some-clause-ok g c =
    let batch = rw c.in-Ok-Some.field-0-is at c.in-Ok-Some.ensures.made in
    made_waits (g.K.Sink.written c.args.sink.now) (g.K.Sink.written c.write_beside.new.sink) (parts_together c.args.waiting.now) (journal_frames c.args.kernel c.args.first c.args.entries.now)
    (parts_together c.in-Ok-Some.made.parts.items) c.in-Ok-Some.ensures.ok batch.0

pub returns-in-Ok-Some-clause-next : goal.returns-in-Ok-Some-clause-next
returns-in-Ok-Some-clause-next g c = let batch = rw c.in-Ok-Some.field-0-is at c.in-Ok-Some.ensures.made in batch.1

pub returns-in-Ok-clause-ok : goal.returns-in-Ok-clause-ok
returns-in-Ok-clause-ok g c =
    none_waits (g.K.Sink.written c.args.sink.now) (g.K.Sink.written c.write_beside.new.sink) (g.K.Sink.written c.write_in_turn.new.sink) (parts_together c.args.waiting.now)
    (journal_frames c.args.kernel c.args.first c.args.entries.now) (parts_together c.new.result.items) c.in-Ok-None.ensures.ok c.in-Ok.ensures.ok (ap parts_together c.new.ensures.items)

pub returns-in-Err-clause-err : goal.returns-in-Err-clause-err
returns-in-Err-clause-err g c =
    front_first (g.K.Sink.written c.args.sink.now) (g.K.Sink.written c.write_beside.new.sink) (parts_together c.args.waiting.now) (journal_frames c.args.kernel c.args.first c.args.entries.now) c.in-Err.ensures.err

pub returns-in-Err-write_in_turn-clause-err : goal.returns-in-Err-write_in_turn-clause-err
returns-in-Err-write_in_turn-clause-err g c =
    front_second (g.K.Sink.written c.args.sink.now) (g.K.Sink.written c.write_beside.new.sink) (g.K.Sink.written c.write_in_turn.new.sink) (parts_together c.args.waiting.now)
    (journal_frames c.args.kernel c.args.first c.args.entries.now) c.in-Ok-None.ensures.ok c.in-Err-write_in_turn.ensures.err

pub returns-in-Err-write_in_turn-clause-memory : goal.returns-in-Err-write_in_turn-clause-memory
returns-in-Err-write_in_turn-clause-memory g c = λ is.
    (g.K.Sink.written c.write_beside.new.sink, c.in-Ok-None.ensures.ok, c.in-Err-write_in_turn.ensures.memory (fault_alike _ _ is))
