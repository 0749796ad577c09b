use Rattle.std.proofs.Common.{◌≡◌, ◌++◌, drop}
use Rattle.py_tree.specs.Locals.{distinct, distinct_after}
use Rattle.py_tree.proofs.locals.distinct.Given as goal

abbrev pub invariant-loop-name : goal.invariant-loop-name
invariant-loop-name l = l.seen ++ distinct_after l.seen (drop l.name-index l.names) ≡ distinct l.names
