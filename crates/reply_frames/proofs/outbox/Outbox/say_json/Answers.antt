use Rattle.std.proofs.Common.{◌∙◌, ap, sym}
use Rattle.serde_json.specs.Written.{compact_text}
use Rattle.reply_frames.specs.Messages.{Said}
use Rattle.reply_frames.specs.Frames.{Outgoing, message, say}
use Rattle.reply_frames.proofs.Saying.{one_said}
use Rattle.reply_frames.proofs.outbox.Outbox.say_json.Goals as goal

pub returns : goal.returns
returns c content is =
    let said : Said = record { channel = c.args.channel.now; kind = c.args.kind.now; content = content } in
    let o : Outgoing = record { kernel = c.self.inside.kernel; request = c.self.inside.request.now; running = c.self.inside.running; bytes = c.self.inside.bytes } in
    let text = c.as_str.ensures ∙ c.in_ok-text.ensures content is ∙ ap (λ (o : Outgoing). compact_text (message o.kernel o.request o.running said)) (sym c.self.view_is) in
    one_said o said _ _ _ text c.in_ok-next.ensures c.in_ok-push_frame.ensures ∙ ap (say said) c.self.view_is
