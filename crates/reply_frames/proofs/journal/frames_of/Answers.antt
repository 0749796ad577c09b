use Rattle.std.proofs.Common.{◌∙◌, ap}
use Rattle.reply_frames.specs.Messages.{busy, idle}
use Rattle.reply_frames.specs.Frames.{Outgoing, say}
use Rattle.reply_frames.specs.Replies as spec
use Rattle.reply_frames.proofs.Telling.{answer_bytes, answer_running}
use Rattle.reply_frames.proofs.journal.frames_of.Goals as goal

pub returns-clause-bytes : goal.returns-clause-bytes
returns-clause-bytes c =
    let a = spec.answer_of c.args.entry.now in
    c.into_frames.ensures.bytes ∙ ap (λ (o : Outgoing). o.bytes) (c.in_ok-say_entry.ensures ∙ ap (λ (o : Outgoing). say idle (spec.say_middle a (say busy o))) c.in_ok-outbox.ensures)
    ∙ answer_bytes c.args.kernel c.args.first c.as_str.result.now a c.in-Some.request.now c.in-Some.ensures (c.as_str.ensures.value ∙ c.in_ok-kernel.ensures)

pub returns-clause-next : goal.returns-clause-next
returns-clause-next c =
    let a = spec.answer_of c.args.entry.now in
    c.into_frames.ensures.next ∙ ap (λ (o : Outgoing). o.running) (c.in_ok-say_entry.ensures ∙ ap (λ (o : Outgoing). say idle (spec.say_middle a (say busy o))) c.in_ok-outbox.ensures)
    ∙ answer_running c.args.first c.as_str.result.now a c.in-Some.request.now c.in-Some.ensures
