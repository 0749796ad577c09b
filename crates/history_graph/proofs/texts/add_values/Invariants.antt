use Rattle.std.proofs.Common.{◌≡◌, take}
use Rattle.py_value.specs.declared.value.Value.TheVariants as value
use Rattle.history_graph.specs.Texts.{OneHas, IsWithAll}
use Rattle.history_graph.proofs.texts.add_values.Given as goal

abbrev pub invariant-loop-held : goal.invariant-loop-held
invariant-loop-held l = IsWithAll l.initial.texts (OneHas (λ v t. v ≡ value.Text t) (take l.held-index l.values)) l.texts
