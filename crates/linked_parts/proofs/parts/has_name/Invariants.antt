use Rattle.std.proofs.Common.{◌≡◌, ℕ, ◌<◌, List, get_or}
use Rattle.linked_parts.proofs.parts.has_name.Given as goal

abbrev pub invariant-loop-other : goal.invariant-loop-other
invariant-loop-other l = (k : ℕ) (d : List ℕ) → k < l.other-index → get_or l.names k d ≡ l.name → ⊥
