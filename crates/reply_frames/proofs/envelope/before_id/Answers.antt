use Rattle.reply_frames.proofs.Pieces.{before_chain}
use Rattle.reply_frames.proofs.envelope.before_id.Goals as goal

pub returns : goal.returns
returns c = before_chain _ _ _ c.args.date.now c.in_ok-text.ensures c.in_ok-push_text.ensures c.in_ok-push_str.ensures.ok
