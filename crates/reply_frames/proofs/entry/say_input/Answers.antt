use Rattle.std.proofs.Common.{◌≡◌, subst, OnOk, codes}
use Rattle.serde_json.specs.Data.{Data}
use Rattle.reply_frames.specs.Frames as spec
use Rattle.reply_frames.proofs.entry.say_input.Goals as goal

pub returns : goal.returns
returns c =
    subst (λ (d : Data). OnOk c.say.result (c.say.new.self ≡ spec.say (record { channel = codes "iopub"; kind = codes "execute_input"; content = d }) c.args.outbox.now))
    c.in_ok-content.ensures c.say.ensures
