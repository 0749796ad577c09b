use Rattle.std.proofs.Common.{◌≡◌, take}
use Rattle.std.specs.Prelude.{map}
use Rattle.serde_json.specs.View.{view}
use Rattle.reply_frames.specs.Replies.{arc_said}
use Rattle.reply_frames.proofs.lists.arcs_of.Given as goal

abbrev pub invariant-loop-arc : goal.invariant-loop-arc
invariant-loop-arc l = map view l.items.items ≡ map arc_said (take l.arc-index l.arcs)
