use denote.Shadow.{shadow}
use denote.Text.{Utf8}
use Rattle.std.proofs.Common.{◌≡◌, ◌-◌, length}
use Rattle.std.specs.Prelude.{map}
use Rattle.plain_data.specs.Cuts.{pieces}
use Rattle.reply_frames.specs.Messages as said
use Rattle.reply_frames.specs.Frames as spec
use Rattle.reply_frames.proofs.entry.say_streams.Given as goal

abbrev pub invariant-loop-turn : goal.invariant-loop-turn
invariant-loop-turn l = shadow (Utf8 l.rest)
    × (spec.say_all (map said.stream (pieces (length l.printed - l.turn) 65536 l.rest)) l.outbox ≡ spec.say_all (said.streams l.printed) l.initial.outbox)
