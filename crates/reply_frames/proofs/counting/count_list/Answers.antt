use Rattle.std.proofs.Common.{◌∙◌, sym, arith}
use Rattle.reply_frames.proofs.Counts.{lists_counted, ceil_small}
use Rattle.reply_frames.proofs.counting.count_list.Goals as goal

pub returns-clause-is : goal.returns-clause-is
returns-clause-is c = λ which ds is. lists_counted which ds c.args.items is ∙ sym c.div_ceil.ensures

pub returns-clause-small : goal.returns-clause-small
returns-clause-small c = let small = ceil_small c.args.items (omega arith) in omega (arith, small, c.div_ceil.ensures)
