use Rattle.std.proofs.Common.{sym, subst}
use Rattle.py_machine.specs.Notes.{AreMarked}
use Rattle.py_machine.proofs.Noted.{none_marked}
use Rattle.py_machine.proofs.notes.Notes.new.Goals as goal

pub invariant_of-result : goal.invariant_of-result
invariant_of-result c = (subst (AreMarked c.new.result) (sym c.new-2.ensures) (none_marked c.new.result), tt)
