use Rattle.std.proofs.Common.{◌∙◌, ap, refl, length}
use Rattle.reply_frames.specs.Messages.{streams}
use Rattle.reply_frames.proofs.Counts.{cell_counted}
use Rattle.reply_frames.proofs.counting.count_cell.Goals as goal

pub returns-clause-is : goal.returns-clause-is
returns-clause-is c = λ request count.
    cell_counted request count c.args.printed.now c.args.shown.now c.args.failure.now _ _ _ (c.count_streams.ensures.is ∙ ap (λ t. length (streams t)) c.as_str.ensures)
    (c.count_outcome.ensures.is count) refl
