use Rattle.std.proofs.Common.{◌≡◌, ◌∙◌, ap, subst, IfOk, string_bytes, ℕ, List}
use Rattle.uuid.specs.Text.{hyphenated_text, lower}
use Rattle.reply_frames.specs.Frames as spec
use Rattle.reply_frames.proofs.message.kernel_name.Goals as goal

pub returns : goal.returns
unfolding spec.kernel_name
returns c =
    subst (λ (bytes : List ℕ). IfOk c.from_str.result (λ t. string_bytes t ≡ bytes))
    (c.encode_lower-name.ensures.text ∙ ap (hyphenated_text lower) (c.hyphenated.ensures ∙ c.from_u128-uuid.ensures)) c.from_str.ensures.ok
