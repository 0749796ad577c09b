use Rattle.std.proofs.lemmas.Result.{on_ok_weaker}
use Rattle.reply_frames.proofs.Pieces.{header_chain}
use Rattle.reply_frames.proofs.envelope.push_header.Goals as goal

pub returns : goal.returns
returns c =
    on_ok_weaker c.push_str.result
    (λ e. header_chain c.args.out.now _ _ _ _ _ _ _ _ _ _ _ _ _ c.args.header.now c.as_str.ensures c.as_str-2.ensures c.as_str-3.ensures c.as_str-4.ensures c.as_str-5.ensures c.as_str-6.ensures
    c.in_ok-push_text.ensures c.in_ok-push_text-2.ensures c.in_ok-push_text-3.ensures c.in_ok-push_text-4.ensures c.in_ok-push_text-5.ensures c.in_ok-push_text-6.ensures e)
    c.push_str.ensures.ok
