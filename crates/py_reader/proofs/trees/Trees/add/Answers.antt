use Rattle.std.proofs.Common.{sym, subst}
use Rattle.py_reader.specs.Kept.{AreRead}
use Rattle.py_reader.proofs.Keeping.{one_more_read}
use Rattle.py_reader.proofs.trees.Trees.add.Goals as goal

pub invariant_of-self : goal.invariant_of-self
invariant_of-self c = record { read = subst AreRead (sym c.in-Ok.ensures.ok) (one_more_read c.args.self.now.bodies c.args.code c.args.body c.args.self.now.read c.requires.read) }
