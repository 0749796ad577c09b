use Rattle.replay_laws.proofs.GoingOn.{versions_so, sizes_so}
use Rattle.replay_laws.proofs.laws.a_session_has_its_versions.Goals as goal

pub returns-clause-parts : goal.returns-clause-parts
returns-clause-parts c = λ read size entries g t stands. versions_so read size entries g t stands

pub returns-clause-sizes : goal.returns-clause-sizes
returns-clause-sizes c = λ read size entries g t stands tells v x active. sizes_so read size entries g t stands tells v x active
