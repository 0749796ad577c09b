use Rattle.std.proofs.Common.{take}
use Rattle.history_graph.specs.Left.{AreOfLeft}
use Rattle.history_graph.proofs.versions.versions_of.Given as goal

abbrev pub invariant-loop-name : goal.invariant-loop-name
invariant-loop-name l = AreOfLeft l.state l.parts l.writer l.heads (take l.name-index l.names) l.news
