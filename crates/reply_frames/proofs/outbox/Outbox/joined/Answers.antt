use Rattle.std.proofs.Common.{◌∙◌, ◌++◌, ap, codes, decimal}
use Rattle.std.proofs.lemmas.Result.{IfOk-weaker}
use Rattle.serde_json.specs.Written.{compact_text}
use Rattle.reply_frames.specs.Frames.{Outgoing, header_json, envelope, message}
use Rattle.reply_frames.proofs.outbox.Outbox.joined.Goals as goal

pub returns : goal.returns
unfolding message
returns c =
    let name = c.self.inside.kernel in
    let request = c.self.inside.request.now in
    let id = c.as_str-3.ensures ∙ c.in_ok-msg_id.ensures ∙ ap (λ kernel. (kernel ++ codes "_") ++ decimal c.self.inside.running) c.as_str.ensures in
    IfOk-weaker c.joined.result _ _ (λ text is content written.
    is content request.date name (codes "kernel") name (header_json request) written (c.as_str-2.ensures ∙ c.self.invariant.0) (c.as_str-4.ensures ∙ c.self.invariant.1)
    ∙ ap (λ msg_id. compact_text (envelope c.args.channel.now content
    (record { msg_id = msg_id; username = codes "kernel"; session = name; date = request.date; msg_type = c.args.kind.now; version = codes "5.3" }) name (header_json request))) id
    ∙ ap (λ (o : Outgoing). compact_text (message o.kernel o.request o.running (record { channel = c.args.channel.now; kind = c.args.kind.now; content = content }))) c.self.view_is) c.joined.ensures
