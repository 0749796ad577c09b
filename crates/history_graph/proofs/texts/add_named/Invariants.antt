use Rattle.std.proofs.Common.{take}
use Rattle.history_graph.specs.Texts.{IsNamed, OneHas, IsWithAll}
use Rattle.history_graph.proofs.texts.add_named.Given as goal

abbrev pub invariant-loop-name : goal.invariant-loop-name
invariant-loop-name l = IsWithAll l.initial.texts (OneHas (IsNamed l.state) (take l.name-index l.names)) l.texts
