use Rattle.std.proofs.Common.{take}
use Rattle.history_graph.specs.Grown.{AreNamesOf}
use Rattle.history_graph.proofs.growth.names_of.Given as goal

abbrev pub invariant-loop-version : goal.invariant-loop-version
invariant-loop-version l = AreNamesOf (take l.version-index l.versions) l.fresh
