use Rattle.std.proofs.Common.{◌≡◌, [], take}
use Rattle.py_tree.specs.Added.{added}
use Rattle.py_tree.specs.Locals.{bound_at_all}
use Rattle.py_tree.proofs.locals.collect_targets.Given as goal

abbrev pub invariant-loop-target : goal.invariant-loop-target
invariant-loop-target l = l.names ≡ added l.initial.names (bound_at_all (take l.target-index l.targets)) []
