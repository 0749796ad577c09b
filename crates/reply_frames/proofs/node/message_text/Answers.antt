use Rattle.std.proofs.Common.{◌∙◌, ap, codes}
use Rattle.std.proofs.lemmas.Result.{IfOk-weaker}
use Rattle.serde_json.specs.Written.{compact_text}
use Rattle.reply_frames.specs.Frames.{envelope}
use Rattle.reply_frames.specs.Pieces.{before_id, after_type}
use Rattle.reply_frames.specs.Nodes as spec
use Rattle.reply_frames.proofs.node.message_text.Goals as goal

pub returns : goal.returns
unfolding spec.message
returns c =
    let error = c.args.error.now in
    let content = spec.content error.kind in
    let date = spec.date_of error.about in
    let kernel = spec.kernel_of error.about in
    let parent = spec.parent_of error.about in
    let is_before = c.as_str-3.ensures ∙ c.in_ok-before_id.ensures ∙ ap before_id c.date_of.ensures in
    let is_after =
    c.as_str-5.ensures ∙ c.in_ok-after_type.ensures ∙ ap (after_type (codes "node") (codes "node") c.as_str.result.now) c.parent_of.ensures
    ∙ ap (λ name. after_type (codes "node") (codes "node") name parent) (c.as_str.ensures ∙ c.in_ok-kernel.ensures) in
    IfOk-weaker c.joined.result _ _ (λ text is.
    is content date (codes "node") (codes "node") kernel parent (c.as_str-2.ensures.value ∙ c.in_ok-content.ensures) is_before is_after
    ∙ ap (λ msg_id. compact_text (envelope (codes "control") content
    (record { msg_id = msg_id; username = codes "node"; session = codes "node"; date = date; msg_type = codes "node_error"; version = codes "5.3" }) kernel parent)) (c.as_str-4.ensures ∙ c.in_ok-msg_id.ensures)) c.joined.ensures
