use Rattle.std.proofs.Common.{IsTrue}
use Rattle.py_laws.proofs.Validity.{valid_after}
use Rattle.py_laws.proofs.laws.cells_keep_states_valid.Goals as goal

pub returns : goal.returns
returns c = λ test body draws s allowed bodies v. valid_after (λ def. IsTrue (test def)) bodies body draws s allowed v
