use Rattle.std.proofs.Common.{◌≡◌, ◌-◌, false}
use Rattle.std.specs.Prelude.{map}
use Rattle.serde_json.specs.View.{view, items_of}
use Rattle.serde_json.specs.Written.{items_have_float}
use Rattle.reply_frames.specs.Replies.{listed, lists, chunks}
use Rattle.reply_frames.specs.Frames as spec
use Rattle.reply_frames.proofs.lists.say_lists.Given as goal

abbrev pub invariant-loop-turn : goal.invariant-loop-turn
invariant-loop-turn l = (items_have_float (items_of (map view l.rest.items)) ≡ false)
    × (spec.say_all (map (listed l.which) (chunks (l.count - l.turn) 4096 (map view l.rest.items))) l.outbox ≡ spec.say_all (lists l.which (map view l.fn.items.items)) l.initial.outbox)
