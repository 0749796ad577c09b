use Rattle.py_machine.proofs.Numbered.{inserted}
use Rattle.py_machine.proofs.numbers.NumberSet.insert.Goals as goal

pub returns-clause-ok : goal.returns-clause-ok
returns-clause-ok c = rw (← c.self.view_is) (inserted _ _ _ _ c.in_ok-insert.ensures.updates.0)
