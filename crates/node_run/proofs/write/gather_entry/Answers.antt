use Rattle.reply_frames.specs.Replies.{entry_frames}
use Rattle.node_run.proofs.Streaming.{front_first}
use Rattle.node_run.proofs.write.gather_entry.Goals as goal

pub returns-clause-err : goal.returns-clause-err
returns-clause-err g c = front_first (g.K.Sink.written c.args.sink.now) (g.K.Sink.written c.give_up.new.sink) c.args.gathered.now
    (entry_frames c.args.kernel c.args.entry.now c.args.running) c.give_up.ensures.front
