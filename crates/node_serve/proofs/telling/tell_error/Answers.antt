use Rattle.node_serve.specs.Sent.{wire}
use Rattle.node_serve.proofs.Sendings.{front_none}
use Rattle.reply_frames.specs.Nodes.{frame_of}
use Rattle.node_serve.proofs.telling.tell_error.Goals as goal

pub returns-in-Err : goal.returns-in-Err
returns-in-Err g c = record { tells = front_none (wire (g.L.Link.line c.args.link.now) (g.L.Link.faults c.args.link.now) c.args.is_cut.now) (frame_of c.args.running c.args.error.now) }
