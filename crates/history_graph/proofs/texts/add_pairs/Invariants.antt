use Rattle.std.proofs.Common.{take}
use Rattle.history_graph.specs.Texts.{IsOfPair, OneHas, IsWithAll}
use Rattle.history_graph.proofs.texts.add_pairs.Given as goal

abbrev pub invariant-loop-index : goal.invariant-loop-index
invariant-loop-index l = IsWithAll l.initial.texts (OneHas IsOfPair (take l.index l.dict)) l.texts
