use Rattle.reply_frames.proofs.Pieces.{after_chain}
use Rattle.reply_frames.proofs.envelope.after_type.Goals as goal

pub returns : goal.returns
returns c =
    after_chain _ _ _ _ _ _ _ _ _ _ _ _ c.in_ok-text.ensures c.in_ok-push_text.ensures c.in_ok-push_text-2.ensures c.in_ok-push_str.ensures.ok
    c.in_ok-push_text-3.ensures c.in_ok-push_str-2.ensures.ok c.in_ok-push_parent.ensures c.in_ok-push_str-3.ensures.ok
