use Rattle.std.proofs.Common.{◌∷◌, drop}
use Rattle.graph_model.specs.Faults.{TextBelow, Ascends}
use Rattle.graph_model.proofs.order.texts_ascend.Given as goal

abbrev pub invariant-loop-text : goal.invariant-loop-text
invariant-loop-text l =
    (Ascends TextBelow (l.last ∷ drop l.text-index l.rest) → Ascends TextBelow l.fn.texts) × (Ascends TextBelow l.fn.texts → Ascends TextBelow (l.last ∷ drop l.text-index l.rest))
