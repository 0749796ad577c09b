use Rattle.state_judge.proofs.Versions.{agreed}
use Rattle.state_judge.proofs.laws.a_state_that_agrees_has_the_versions.Goals as goal

pub returns : goal.returns
returns c = agreed
