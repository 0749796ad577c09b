use Rattle.replay_laws.proofs.Sizing.{handle_told, tells_alike, tells_parts}
use Rattle.replay_laws.proofs.laws.sizes_are_told_alike.Goals as goal

pub returns-clause-handle : goal.returns-clause-handle
returns-clause-handle c = λ names s closed. handle_told s names closed

pub returns-clause-alike : goal.returns-clause-alike
returns-clause-alike c = tells_alike

pub returns-clause-parts : goal.returns-clause-parts
returns-clause-parts c = λ r is. tells_parts r is
