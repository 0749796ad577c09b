use denote.Shadow.{shadow}
use denote.Text.{Utf8}
use Rattle.std.proofs.Common.{length}
use Rattle.plain_data.specs.Cuts.{pieces}
use Rattle.reply_frames.proofs.Counts.{AreCut}
use Rattle.reply_frames.proofs.counting.count_streams.Given as goal

abbrev pub invariant-loop-turn : goal.invariant-loop-turn
invariant-loop-turn l = shadow (Utf8 l.rest) × AreCut l.turn (length l.printed) l.rest (length (pieces (length l.printed) 65536 l.printed))
