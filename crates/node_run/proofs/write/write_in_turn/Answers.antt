use Rattle.std.proofs.Common.{◌≡◌, ◌+◌, ◌++◌, refl, ap, get_or, drop, arith}
use Rattle.std.proofs.lemmas.List.Sums.{sum_by_more}
use Rattle.reply_frames.specs.Replies.{entry_length}
use Rattle.node_run.specs.Frames.{journal_frames}
use Rattle.node_run.proofs.Streaming.{piece_written, front_written, all_written, gathered_on, gathered_front, map_ok, map_err}
use Rattle.node_run.proofs.Framing.{entry_next, entry_past}
use Rattle.node_run.proofs.Stopping.{stops_in_entries, fault_alike}
use Rattle.node_run.proofs.write.write_in_turn.Goals as goal

pub returns-in-Err-clause-err : goal.returns-in-Err-clause-err
returns-in-Err-clause-err g c =
    gathered_front (g.K.Sink.written c.args.sink.now) (g.K.Sink.written c.loop-entry.sink) (g.K.Sink.written c.gather_entry.new.sink) (journal_frames c.args.kernel c.args.first c.args.entries.now) _ c.loop-entry.gathered _ _ c.loop-entry.invariant.0
    (entry_next c.args.kernel c.loop-entry.running (c.loop-entry.running + entry_length c.entry-item.result) c.loop-entry.entry-index c.entry-item.result c.args.entries.now c.loop-entry-test.true c.entry-item.is refl)
    c.in-Err.ensures.err

pub returns-in-Err-clause-memory : goal.returns-in-Err-clause-memory
returns-in-Err-clause-memory g c = λ is.
    stops_in_entries (g.K.Sink.written c.args.sink.now) (g.K.Sink.written c.loop-entry.sink) (g.K.Sink.written c.gather_entry.new.sink) c.args.kernel c.args.first c.args.entries.now c.loop-entry.entry-index c.loop-entry.running c.entry-item.result
    c.loop-entry.gathered c.loop-entry-test.true c.entry-item.is c.loop-entry.invariant.2 c.loop-entry.invariant.0 (c.in-Err.ensures.memory (fault_alike _ _ is))

pub loop-entry-preserved : goal.loop-entry-preserved
loop-entry-preserved g c = (
  gathered_on (g.K.Sink.written c.args.sink.now) (g.K.Sink.written c.loop-entry.sink) (g.K.Sink.written c.gather_entry.new.sink) (journal_frames c.args.kernel c.args.first c.args.entries.now) _ c.loop-entry.gathered c.gather_entry.new.gathered _ _ c.loop-entry.invariant.0
      (entry_next c.args.kernel c.loop-entry.running c.in-Ok.next c.loop-entry.entry-index c.entry-item.result c.args.entries.now c.loop-entry-test.true c.entry-item.is c.in-Ok.ensures.next)
      c.in-Ok.ensures.ok,
  omega (arith, c.in-Ok.ensures.faults_stay, c.loop-entry.invariant.1),
  (let more = sum_by_more entry_length c.args.entries.now c.loop-entry.entry-index c.entry-item.result c.loop-entry-test.true in
      let one : entry_length c.entry-item.result ≡ entry_length (get_or c.args.entries.now c.loop-entry.entry-index c.entry-item.result) = ap entry_length c.entry-item.is in
      omega (arith, c.in-Ok.ensures.next, c.loop-entry.invariant.2, more, one)),
)

pub returns-in-Ok-flush-clause-ok : goal.returns-in-Ok-flush-clause-ok
returns-in-Ok-flush-clause-ok g c =
    let rest = journal_frames c.args.kernel c.loop-entry.running (drop c.loop-entry.entry-index c.args.entries.now) in
    all_written (g.K.Sink.written c.args.sink.now) (g.K.Sink.written c.flush.new.sink) (journal_frames c.args.kernel c.args.first c.args.entries.now) rest
    (piece_written (g.K.Sink.written c.args.sink.now) (g.K.Sink.written c.loop-entry.sink) (g.K.Sink.written c.flush.new.sink) _ (c.loop-entry.gathered ++ rest) c.loop-entry.gathered rest c.loop-entry.invariant.0 refl c.in-Ok-flush.ensures.ok)
    (entry_past c.args.kernel c.loop-entry.running c.loop-entry.entry-index c.args.entries.now c.loop-entry-test.false)

pub returns-clause-err : goal.returns-clause-err
returns-clause-err g c =
    let rest = journal_frames c.args.kernel c.loop-entry.running (drop c.loop-entry.entry-index c.args.entries.now) in
    front_written (g.K.Sink.written c.args.sink.now) (g.K.Sink.written c.loop-entry.sink) (g.K.Sink.written c.flush.new.sink) (journal_frames c.args.kernel c.args.first c.args.entries.now) (c.loop-entry.gathered ++ rest) c.loop-entry.gathered rest c.loop-entry.invariant.0 refl c.in-Err-flush.ensures.err
