use Rattle.std.proofs.Common.{◌≡◌, subst, OnOk, codes}
use Rattle.serde_json.specs.Data.{Data}
use Rattle.reply_frames.specs.Frames as frames
use Rattle.reply_frames.specs.Replies as spec
use Rattle.reply_frames.proofs.journal.say_completion.Goals as goal

pub returns : goal.returns
returns c =
    subst (λ (d : Data). OnOk c.say_replied.result (c.say_replied.new.outbox ≡ frames.say (spec.replied c.args.request.now (codes "is_complete_reply") d) c.args.outbox.now))
    c.in_ok-content.ensures c.say_replied.ensures
