use Rattle.std.proofs.Common.{◌∙◌, ap, length, refl, arith, sym}
use Rattle.reply_frames.proofs.Counts.{adopted_counted}
use Rattle.reply_frames.proofs.counting.count_adopted.Goals as goal

pub returns : goal.returns
returns c = λ request from to objects.
    let copied = ap length c.as_slice.ensures in
    let rerun = ap length c.as_slice-2.ensures in
    adopted_counted request from to objects c.args.certified.now _ _ _ _ (omega (arith, copied, rerun)) c.count_list.ensures.is (λ which ds is. c.count_list-2.ensures.is which ds (is ∙ ap length (sym c.as_slice-3.ensures))) refl
