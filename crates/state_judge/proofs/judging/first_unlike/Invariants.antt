use Rattle.state_judge.proofs.Agreed.{NoneUpTo}
use Rattle.state_judge.proofs.judging.first_unlike.Given as goal

abbrev pub invariant-loop-i : goal.invariant-loop-i
invariant-loop-i l = NoneUpTo l.graph l.state l.i
