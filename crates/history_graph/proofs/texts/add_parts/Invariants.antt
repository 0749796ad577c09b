use Rattle.std.proofs.Common.{take}
use Rattle.history_graph.specs.Texts.{HasTextIn, OneHas, IsWithAll}
use Rattle.history_graph.proofs.texts.add_parts.Given as goal

abbrev pub invariant-loop-part : goal.invariant-loop-part
invariant-loop-part l = IsWithAll l.initial.texts (OneHas (HasTextIn l.state) (take l.part-index l.parts)) l.texts
