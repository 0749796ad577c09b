use Rattle.state_judge.proofs.Agreed.{AreNamed}
use Rattle.state_judge.proofs.judging.active_names.Given as goal

abbrev pub invariant-loop-version : goal.invariant-loop-version
invariant-loop-version l = AreNamed l.graph l.version-index l.names
