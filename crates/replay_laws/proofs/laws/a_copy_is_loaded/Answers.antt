use Rattle.std.specs.Prelude.{Contains}
use Rattle.py_laws.proofs.Sameness.{same_itself}
use Rattle.replay_laws.proofs.Copying.{copy_loaded}
use Rattle.replay_laws.proofs.laws.a_copy_is_loaded.Goals as goal

pub returns-clause-loaded : goal.returns-clause-loaded
returns-clause-loaded c = λ names copy t closed_copy closed. copy_loaded copy closed_copy names t closed

pub returns-clause-whole : goal.returns-clause-whole
returns-clause-whole c = λ g p last closed v x copied at there plain. (closed, same_itself last closed (Contains x.names))
