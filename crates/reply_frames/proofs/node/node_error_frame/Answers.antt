use Rattle.std.proofs.Common.{◌∙◌, ◌++◌, ap}
use Rattle.reply_frames.specs.Frames.{frame}
use Rattle.reply_frames.proofs.node.node_error_frame.Goals as goal

pub returns : goal.returns
returns c =
    c.in_ok-push_frame.ensures ∙ ap (λ bytes. bytes ++ frame c.as_str.result.now) c.new-bytes.ensures
    ∙ ap frame (c.as_str.ensures ∙ c.in_ok-text.ensures)
