use Rattle.std.proofs.Common.{take}
use Rattle.history_graph.specs.Texts.{HasTextAt, OneHas, IsWithAll}
use Rattle.history_graph.proofs.texts.add_objects.Given as goal

abbrev pub invariant-loop-at : goal.invariant-loop-at
invariant-loop-at l = IsWithAll l.initial.texts (OneHas (HasTextAt l.state) (take l.at-index l.addresses)) l.texts
