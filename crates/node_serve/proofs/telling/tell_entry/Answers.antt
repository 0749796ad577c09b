use Rattle.reply_frames.specs.Replies.{entry_frames}
use Rattle.node_serve.specs.Sent.{wire}
use Rattle.node_serve.proofs.Sendings.{front_none}
use Rattle.node_serve.proofs.telling.tell_entry.Goals as goal

pub returns-clause-tells : goal.returns-clause-tells
returns-clause-tells g c = front_none (wire (g.L.Link.line c.args.link.now) (g.L.Link.faults c.args.link.now) c.args.is_cut.now) (entry_frames c.args.kernel c.args.entry.now c.args.running)
