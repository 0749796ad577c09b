use Rattle.std.proofs.Common.{arith, rules}
use Rattle.reply_frames.proofs.Chunking.{none_there, some_there}
use Rattle.reply_frames.proofs.Counts.{one_cut, none_left, all_turns, streams_counted}
use Rattle.reply_frames.proofs.counting.count_streams.Goals as goal

pub loop-turn-preserved : goal.loop-turn-preserved
loop-turn-preserved c = (
  search rules,
  one_cut c.loop-turn.turn _ _ c.loop-turn.rest.now _ c.loop-turn-test.true (some_there _ c.if-is_empty.ensures) c.cut_at.ensures.back c.loop-turn.invariant.1,
)

pub returns-then-is_empty-clause-is : goal.returns-then-is_empty-clause-is
returns-then-is_empty-clause-is c =
    streams_counted c.args.printed.now c.loop-turn.turn (none_left c.loop-turn.turn _ _ c.loop-turn.rest.now (none_there _ c.if-is_empty.ensures) c.loop-turn.invariant.1)

pub returns-clause-is : goal.returns-clause-is
returns-clause-is c =
    streams_counted c.args.printed.now _ (all_turns c.loop-turn.turn _ _ c.loop-turn.rest.now (omega (arith, c.loop-turn-test.false)) (omega (arith, c.loop-turn.auto.turn-end)) c.loop-turn.invariant.1)
