use Rattle.std.proofs.Common.{◌∙◌, ap}
use Rattle.std.proofs.lemmas.Result.{IfOk-weaker}
use Rattle.serde_json.specs.Written.{compact_text, has_float}
use Rattle.made_command.proofs.Frames.{cell_whole}
use Rattle.made_command.proofs.messages.cell_text.Goals as goal

pub returns : goal.returns
returns c =
    let is = c.in_ok-message.ensures in
    IfOk-weaker c.to_string.result _ _ (λ s h. h (ap has_float is ∙ cell_whole c.args.number) ∙ ap compact_text is) c.to_string.ensures.text
