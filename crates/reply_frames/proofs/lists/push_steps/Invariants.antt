use Rattle.std.proofs.Common.{◌≡◌, ◌++◌, take}
use Rattle.std.specs.Prelude.{map}
use Rattle.serde_json.specs.View.{view}
use Rattle.reply_frames.specs.Replies.{step}
use Rattle.reply_frames.proofs.lists.push_steps.Given as goal

abbrev pub invariant-loop-number : goal.invariant-loop-number
invariant-loop-number l = map view l.items.items ≡ map view l.initial.items.items ++ map (step l.word) (take l.number-index l.numbers)
