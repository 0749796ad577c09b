use Rattle.reply_frames.proofs.Pieces.{status_chain}
use Rattle.reply_frames.proofs.content.status_json.Goals as goal

pub returns : goal.returns
returns c = status_chain _ _ _ c.args.state.now c.in_ok-text.ensures c.in_ok-push_text.ensures c.in_ok-push_str.ensures.ok
