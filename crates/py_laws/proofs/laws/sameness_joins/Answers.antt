use Rattle.py_laws.proofs.Joining.{joined}
use Rattle.py_laws.proofs.laws.sameness_joins.Goals as goal

pub returns : goal.returns
returns c = λ names more s t h k lefts rights. joined s t names more h k lefts rights
