use Rattle.std.proofs.Common.{◌<◌, take}
use Rattle.history_graph.specs.Texts.{HasTextAt, OneHas, AreAtMost}
use Rattle.history_graph.proofs.texts.room_at.Given as goal

abbrev pub invariant-loop-at : goal.invariant-loop-at
invariant-loop-at l = l.total < 4294967296 → AreAtMost (OneHas (HasTextAt l.state) (take l.at-index l.addresses)) l.total
