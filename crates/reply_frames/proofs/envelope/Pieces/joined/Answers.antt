use Rattle.reply_frames.proofs.Pieces.{message_chain}
use Rattle.reply_frames.proofs.envelope.Pieces.joined.Goals as goal

pub returns : goal.returns
returns c content date session username kernel parent is_content is_before is_after =
    message_chain _ _ _ _ _ _ _ c.args.self.now.channel.now c.args.self.now.content.now c.args.self.now.before_id.now c.args.self.now.msg_id.now c.args.self.now.msg_type.now
    c.args.self.now.after_type.now date session username kernel content parent is_content is_before is_after
    c.in_ok-text.ensures c.in_ok-push_text.ensures c.in_ok-push_str.ensures.ok c.in_ok-push_str-2.ensures.ok c.in_ok-push_text-2.ensures c.in_ok-push_text-3.ensures
    c.in_ok-push_str-3.ensures.ok
