use Rattle.std.proofs.lemmas.Result.{on_ok_weaker}
use Rattle.reply_frames.proofs.Pieces.{plain_chain}
use Rattle.reply_frames.proofs.envelope.push_text.Goals as goal

pub returns-then-are_plain : goal.returns-then-are_plain
returns-then-are_plain c =
    on_ok_weaker c.push_str-then-are_plain-3.result
    (λ e. plain_chain c.args.out.now c.args.before.now c.args.text.now _ _ _ _ (cc) c.in_ok-push_str.ensures.ok c.in_ok-push_str-2.ensures.ok c.in_ok-push_str-3.ensures.ok e)
    c.push_str-then-are_plain-3.ensures.ok
