use Rattle.std.proofs.Common.{sym, subst}
use Rattle.py_reader.specs.Kept.{AreRead}
use Rattle.py_reader.proofs.Keeping.{none_read}
use Rattle.py_reader.proofs.trees.Trees.new.Goals as goal

pub invariant_of-result : goal.invariant_of-result
invariant_of-result c = record { read = subst AreRead (sym c.new.ensures) none_read }
