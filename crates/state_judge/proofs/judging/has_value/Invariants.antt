use Rattle.std.proofs.Common.{ℕ, ◌<◌, List, get_or}
use Rattle.linked_parts.specs.Parts.{HasValue}
use Rattle.state_judge.proofs.judging.has_value.Given as goal

abbrev pub invariant-loop-name : goal.invariant-loop-name
invariant-loop-name l = (k : ℕ) (d : List ℕ) → k < l.name-index → ¬ HasValue l.state (get_or l.names k d)
