use Rattle.std.proofs.Common.{◌<◌, ◌∷◌, drop}
use Rattle.graph_model.specs.Faults.{Ascends}
use Rattle.graph_model.proofs.order.numbers_ascend.Given as goal

abbrev pub invariant-loop-number : goal.invariant-loop-number
invariant-loop-number l =
    (Ascends (λ m n. m < n) (l.last ∷ drop l.number-index l.rest) → Ascends (λ m n. m < n) l.fn.numbers) × (Ascends (λ m n. m < n) l.fn.numbers → Ascends (λ m n. m < n) (l.last ∷ drop l.number-index l.rest))
