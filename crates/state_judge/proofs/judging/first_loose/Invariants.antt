use Rattle.std.proofs.Common.{ℕ, ◌<◌, List, get_or}
use Rattle.state_judge.specs.Agreeing.{IsLoose}
use Rattle.state_judge.proofs.judging.first_loose.Given as goal

abbrev pub invariant-loop-name : goal.invariant-loop-name
invariant-loop-name l = (k : ℕ) (d : List ℕ) → k < l.name-index → ¬ IsLoose l.graph l.state (get_or l.name-items k d)
