use Rattle.std.proofs.Common.{sym, subst}
use Rattle.py_reader.specs.Kept.{AreRead}
use Rattle.py_reader.proofs.Keeping.{none_read}
use Rattle.py_reader.proofs.trees.Trees.make_room.Goals as goal

pub invariant_of-self : goal.invariant_of-self
invariant_of-self c = record { read = subst AreRead (sym c.new.ensures) none_read }
