use Rattle.std.proofs.Common.{◌≡◌, get_or, ap, arith}
use Rattle.std.proofs.lemmas.List.Sums.{sum_by_more}
use Rattle.reply_frames.specs.Replies.{entry_length}
use Rattle.node_run.proofs.render.number_after.Goals as goal

pub loop-entry-preserved : goal.loop-entry-preserved
loop-entry-preserved c =
    let more = sum_by_more entry_length c.args.entries.now c.loop-entry.entry-index c.entry-item.result c.loop-entry-test.true in
    let one : entry_length c.entry-item.result ≡ entry_length (get_or c.args.entries.now c.loop-entry.entry-index c.entry-item.result) = ap entry_length c.entry-item.is in
    omega (arith, c.frame_count.ensures, c.loop-entry.invariant, more, one)
