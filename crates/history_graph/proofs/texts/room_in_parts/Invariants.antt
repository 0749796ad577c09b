use Rattle.std.proofs.Common.{◌<◌, take}
use Rattle.history_graph.specs.Texts.{HasTextIn, OneHas, AreAtMost}
use Rattle.history_graph.proofs.texts.room_in_parts.Given as goal

abbrev pub invariant-loop-part : goal.invariant-loop-part
invariant-loop-part l = l.total < 4294967296 → AreAtMost (OneHas (HasTextIn l.state) (take l.part-index l.parts)) l.total
